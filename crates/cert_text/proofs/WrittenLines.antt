-- Lines that are written one after another.
use Prim.Native.Nat.{suc, zero}
use Rattle.std.proofs.Common.{◌≡◌, ℕ, ℤ, ◌+◌, ◌<◌, Bool, true, false, cond, ◌||◌, List, [], ◌∷◌, ◌++◌, Box, Vec, Global, decimal, length, get_or, take, map, refl, sym, ap, ◌∙◌, subst, arith, append_assoc, add-one}
use Rattle.std.proofs.lemmas.List.{append-nil}
use Rattle.goal_answers.specs.Trees.{Tree, tree_of, tree_layer}
use Rattle.goal_answers.specs.declared.trees.Tree as T
use Rattle.goal_answers.specs.declared.trees.Tree.TheOpen.{Tree-F}
use Rattle.goal_answers.specs.declared.trees.Tree.TheFolds.{fold-roll-Tree}
use Rattle.goal_answers.specs.declared.trees.GoalCert.{GoalCert}
use Rattle.cert_text.specs.Certificates.{certificate_of, certificates_of}
use Rattle.cert_text.specs.declared.versions.Version.{Version}
use Rattle.cert_text.specs.declared.versions.Version.TheVariants as versions
use Rattle.cert_text.specs.Lines.{Line, title, goal, whole, last, line_text, multiplier_text, multipliers_text}
use Rattle.cert_text.specs.Texts.{closed, has_whole, have_whole, version, tree_lines, goals_lines}
use Rattle.cert_text.proofs.Multipliers.{multipliers_text_push}

abbrev pub lines_text : List Line → List ℕ
lines_text ls = closed (map line_text ls)

pub lines_text-append : (ks ls : List Line) → lines_text (ks ++ ls) ≡ lines_text ks ++ lines_text ls
lines_text-append [] ls = refl
lines_text-append (k ∷ ks) ls =
    ap (λ (bs : List ℕ). line_text k ++ 10 ∷ bs) (lines_text-append ks ls) ∙ sym (append_assoc (line_text k) (10 ∷ lines_text ks) (lines_text ls))

take_one_more : {X : Type 0} (xs : List X) (i : ℕ) (d : X) → i < length xs → take (i + 1) xs ≡ take i xs ++ get_or xs i d ∷ []
take_one_more [] i d l = absurd (omega arith)
take_one_more (x ∷ xs) zero d l = refl
take_one_more (x ∷ xs) (suc i) d l = rw add-one (ap (λ ys. x ∷ ys) (rw add-one at (take_one_more xs i d (omega arith))))

pub multipliers_text_more : (ms : List (ℕ × ℕ)) (i : ℕ) (d : ℕ × ℕ) → i < length ms → multipliers_text (take (i + 1) ms) ≡ multipliers_text (take i ms) ++ multiplier_text (get_or ms i d)
multipliers_text_more ms i d l = ap multipliers_text (take_one_more ms i d l) ∙ multipliers_text_push (take i ms) (get_or ms i d)

goals_lines_last : (cs : List GoalCert) (c : GoalCert) → goals_lines (certificates_of (cs ++ c ∷ [])) ≡ goals_lines (certificates_of cs) ++ goal (certificate_of c).name ∷ tree_lines (certificate_of c).tree
goals_lines_last [] c = ap (λ (ls : List Line). goal (certificate_of c).name ∷ ls) (append-nil (tree_lines (certificate_of c).tree))
goals_lines_last (d ∷ cs) c =
    ap (λ (ls : List Line). goal (certificate_of d).name ∷ (tree_lines (certificate_of d).tree ++ ls)) (goals_lines_last cs c)
    ∙ ap (λ (ls : List Line). goal (certificate_of d).name ∷ ls) (sym (append_assoc (tree_lines (certificate_of d).tree) (goals_lines (certificates_of cs)) (goal (certificate_of c).name ∷ tree_lines (certificate_of c).tree)))

pub goals_text_more : (cs : List GoalCert) (i : ℕ) (d : GoalCert) (old before head new : List ℕ) → i < length cs
    → before ≡ old ++ lines_text (goals_lines (certificates_of (take i cs)))
    → head ≡ before ++ lines_text (goal (certificate_of (get_or cs i d)).name ∷ [])
    → new ≡ head ++ lines_text (tree_lines (tree_of (get_or cs i d).tree))
    → new ≡ old ++ lines_text (goals_lines (certificates_of (take (i + 1) cs)))
goals_text_more cs i d old before head new l e f g =
    let c : GoalCert = get_or cs i d in
    let front : List Line = goals_lines (certificates_of (take i cs)) in
    let one : List Line = goal (certificate_of c).name ∷ [] in
    let tree : List Line = tree_lines (tree_of c.tree) in
    let all : goals_lines (certificates_of (take (i + 1) cs)) ≡ front ++ (one ++ tree) = ap (λ (xs : List GoalCert). goals_lines (certificates_of xs)) (take_one_more cs i d l) ∙ goals_lines_last (take i cs) c in
    let text : lines_text (goals_lines (certificates_of (take (i + 1) cs))) ≡ lines_text front ++ (lines_text one ++ lines_text tree) = ap lines_text all ∙ lines_text-append front (one ++ tree) ∙ ap (λ (bs : List ℕ). lines_text front ++ bs) (lines_text-append one tree) in
    g ∙ ap (λ (bs : List ℕ). bs ++ lines_text tree) (f ∙ ap (λ (bs : List ℕ). bs ++ lines_text one) e)
    ∙ append_assoc (old ++ lines_text front) (lines_text one) (lines_text tree)
    ∙ append_assoc old (lines_text front) (lines_text one ++ lines_text tree)
    ∙ ap (λ (bs : List ℕ). old ++ bs) (sym text)

pub goals_written : (cs : List GoalCert) (i : ℕ) (c : GoalCert) (old before head new : List ℕ) → c ≡ get_or cs i c → i < length cs
    → before ≡ old ++ lines_text (goals_lines (certificates_of (take i cs)))
    → head ≡ before ++ lines_text (goal (certificate_of c).name ∷ [])
    → new ≡ head ++ lines_text (tree_lines (tree_of c.tree))
    → new ≡ old ++ lines_text (goals_lines (certificates_of (take (i + 1) cs)))
goals_written cs i c old before head new same l e f g =
    let P : GoalCert → Type 0 = λ d. head ≡ before ++ lines_text (goal (certificate_of d).name ∷ []) in
    let Q : GoalCert → Type 0 = λ d. new ≡ head ++ lines_text (tree_lines (tree_of d.tree)) in
    goals_text_more cs i c old before head new l e (subst P same f) (subst Q same g)

pub all_written : (v : Version) (ls : List Line) (one two three : List ℕ) → one ≡ lines_text (title v ∷ []) → two ≡ one ++ lines_text ls → three ≡ two ++ (line_text last ++ 10 ∷ [])
    → three ≡ lines_text (title v ∷ (ls ++ last ∷ []))
all_written v ls one two three e f g =
    let t : List ℕ = lines_text (title v ∷ []) in
    g ∙ ap (λ (bs : List ℕ). bs ++ lines_text (last ∷ [])) (f ∙ ap (λ (bs : List ℕ). bs ++ lines_text ls) e)
    ∙ append_assoc t (lines_text ls) (lines_text (last ∷ []))
    ∙ ap (λ (bs : List ℕ). t ++ bs) (sym (lines_text-append ls (last ∷ [])))
    ∙ sym (lines_text-append (title v ∷ []) (ls ++ last ∷ []))

split_tree : (a b : Box T.Tree Global) → tree_of (T.TheVariants.Split a b) ≡ Tree.split (tree_of a.value) (tree_of b.value)
split_tree a b = ap tree_of (sym (T.TheVariants.rolls-Split a b)) ∙ fold-roll-Tree Tree tree_layer (Tree-F.Split a b) ∙ refl

farkas_tree : (ms : Vec (ℕ × ℕ) Global) → tree_of (T.TheVariants.Farkas ms) ≡ Tree.farkas ms.items
farkas_tree ms = ap tree_of (sym (T.TheVariants.rolls-Farkas ms)) ∙ fold-roll-Tree Tree tree_layer (Tree-F.Farkas ms) ∙ refl

whole_tree : (x : ℕ) (m : ℤ) (a b : Box T.Tree Global) → tree_of (T.TheVariants.Whole x m a b) ≡ Tree.whole x m (tree_of a.value) (tree_of b.value)
whole_tree x m a b = ap tree_of (sym (T.TheVariants.rolls-Whole x m a b)) ∙ fold-roll-Tree Tree tree_layer (Tree-F.Whole x m a b) ∙ refl

pub whole_written : (t : T.Tree) (x : ℕ) (m : ℤ) (most more : Box T.Tree Global) (one two : T.Tree) (old a b new : List ℕ) → t ≡ T.TheVariants.Whole x m most more → one ≡ most.value → two ≡ more.value
    → a ≡ old ++ lines_text (whole x m ∷ []) → b ≡ a ++ lines_text (tree_lines (tree_of one)) → new ≡ b ++ lines_text (tree_lines (tree_of two))
    → new ≡ old ++ lines_text (tree_lines (tree_of t))
whole_written t x m most more one two old a b new e y n f g h =
    let head : List ℕ = lines_text (whole x m ∷ []) in
    let ys : List ℕ = lines_text (tree_lines (tree_of one)) in
    let ns : List ℕ = lines_text (tree_lines (tree_of two)) in
    let P : Tree → Type 0 = λ s. new ≡ old ++ lines_text (tree_lines s) in
    let q : tree_of t ≡ Tree.whole x m (tree_of one) (tree_of two) = ap tree_of e ∙ whole_tree x m most more ∙ ap (λ (u : T.Tree). Tree.whole x m (tree_of u) (tree_of more.value)) (sym y) ∙ ap (λ (u : T.Tree). Tree.whole x m (tree_of one) (tree_of u)) (sym n) in
    subst P (sym q)
    (h ∙ ap (λ (bs : List ℕ). bs ++ ns) (g ∙ ap (λ (bs : List ℕ). bs ++ ys) f)
    ∙ append_assoc (old ++ head) ys ns
    ∙ append_assoc old head (ys ++ ns)
    ∙ ap (λ (bs : List ℕ). old ++ (head ++ bs)) (sym (lines_text-append (tree_lines (tree_of one)) (tree_lines (tree_of two))))
    ∙ ap (λ (bs : List ℕ). old ++ bs) (sym (lines_text-append (whole x m ∷ []) (tree_lines (tree_of one) ++ tree_lines (tree_of two)))))

pub split_whole : (t : T.Tree) (a b : Box T.Tree Global) (one two : T.Tree) → t ≡ T.TheVariants.Split a b → one ≡ a.value → two ≡ b.value → has_whole (tree_of t) ≡ (has_whole (tree_of one) || has_whole (tree_of two))
split_whole t a b one two e y n =
    ap has_whole (ap tree_of e ∙ split_tree a b) ∙ ap (λ (u : T.Tree). has_whole (tree_of u) || has_whole (tree_of b.value)) (sym y) ∙ ap (λ (u : T.Tree). has_whole (tree_of one) || has_whole (tree_of u)) (sym n)

pub farkas_whole : (t : T.Tree) (ms : Vec (ℕ × ℕ) Global) → t ≡ T.TheVariants.Farkas ms → has_whole (tree_of t) ≡ false
farkas_whole t ms e = ap has_whole (ap tree_of e ∙ farkas_tree ms)

pub whole_whole : (t : T.Tree) (x : ℕ) (m : ℤ) (a b : Box T.Tree Global) → t ≡ T.TheVariants.Whole x m a b → has_whole (tree_of t) ≡ true
whole_whole t x m a b e = ap has_whole (ap tree_of e ∙ whole_tree x m a b)

have_whole_last : (cs : List GoalCert) (c : GoalCert) → have_whole (certificates_of cs) ≡ false → has_whole (tree_of c.tree) ≡ false → have_whole (certificates_of (cs ++ c ∷ [])) ≡ false
have_whole_last [] c none here = ap (λ (b : Bool). b || false) here
have_whole_last (d ∷ cs) c none here =
    let f = neither (has_whole (tree_of d.tree)) (have_whole (certificates_of cs)) none in
    ap (λ (b : Bool). b || have_whole (certificates_of (cs ++ c ∷ []))) f.0 ∙ have_whole_last cs c f.1 here
  where
    neither : (a b : Bool) → (a || b) ≡ false → (a ≡ false) × (b ≡ false)
    neither true b e = absurd (cc)
    neither false b e = (refl, e)

pub none_so_far : (cs : List GoalCert) (i : ℕ) (c : GoalCert) → c ≡ get_or cs i c → i < length cs → have_whole (certificates_of (take i cs)) ≡ false → has_whole (tree_of c.tree) ≡ false
    → have_whole (certificates_of (take (i + 1) cs)) ≡ false
none_so_far cs i c same l none here =
    let P : GoalCert → Type 0 = λ d. have_whole (certificates_of (take i cs ++ d ∷ [])) ≡ false in
    ap (λ (xs : List GoalCert). have_whole (certificates_of xs)) (take_one_more cs i c l) ∙ subst P same (have_whole_last (take i cs) c none here)

one_here : (cs : List GoalCert) (i : ℕ) (d : GoalCert) → i < length cs → has_whole (tree_of (get_or cs i d).tree) ≡ true → have_whole (certificates_of cs) ≡ true
one_here [] i d l here = absurd (omega arith)
one_here (c ∷ cs) zero d l here = ap (λ (b : Bool). b || have_whole (certificates_of cs)) here
one_here (c ∷ cs) (suc i) d l here = ap (λ (b : Bool). has_whole (tree_of c.tree) || b) (one_here cs i d (omega arith) here) ∙ or_true (has_whole (tree_of c.tree))
  where
    or_true : (a : Bool) → (a || true) ≡ true
    or_true true = refl
    or_true false = refl

pub version_two : (cs : List GoalCert) (i : ℕ) (c : GoalCert) → c ≡ get_or cs i c → i < length cs → has_whole (tree_of c.tree) ≡ true → versions.Two ≡ version (certificates_of cs)
version_two cs i c same l here =
    let P : GoalCert → Type 0 = λ d. has_whole (tree_of d.tree) ≡ true in
    ap (λ (b : Bool). cond b versions.Two versions.One) (sym (one_here cs i c l (subst P same here)))

pub version_one : (cs : List GoalCert) → have_whole (certificates_of cs) ≡ false → versions.One ≡ version (certificates_of cs)
version_one cs none = ap (λ (b : Bool). cond b versions.Two versions.One) (sym none)

pub split_written : (t : T.Tree) (holds fails : Box T.Tree Global) (one two : T.Tree) (old a b new : List ℕ) → t ≡ T.TheVariants.Split holds fails → one ≡ holds.value → two ≡ fails.value
    → a ≡ old ++ 115 ∷ 10 ∷ [] → b ≡ a ++ lines_text (tree_lines (tree_of one)) → new ≡ b ++ lines_text (tree_lines (tree_of two))
    → new ≡ old ++ lines_text (tree_lines (tree_of t))
split_written t holds fails one two old a b new e y n f g h =
    let ys : List ℕ = lines_text (tree_lines (tree_of one)) in
    let ns : List ℕ = lines_text (tree_lines (tree_of two)) in
    let P : Tree → Type 0 = λ s. new ≡ old ++ lines_text (tree_lines s) in
    let q : tree_of t ≡ Tree.split (tree_of one) (tree_of two) = ap tree_of e ∙ split_tree holds fails ∙ ap (λ (u : T.Tree). Tree.split (tree_of u) (tree_of fails.value)) (sym y) ∙ ap (λ (u : T.Tree). Tree.split (tree_of one) (tree_of u)) (sym n) in
    subst P (sym q)
    (h ∙ ap (λ (bs : List ℕ). bs ++ ns) (g ∙ ap (λ (bs : List ℕ). bs ++ ys) f)
    ∙ append_assoc (old ++ 115 ∷ 10 ∷ []) ys ns
    ∙ append_assoc old (115 ∷ 10 ∷ []) (ys ++ ns)
    ∙ ap (λ (bs : List ℕ). old ++ 115 ∷ 10 ∷ bs) (sym (lines_text-append (tree_lines (tree_of one)) (tree_lines (tree_of two)))))

pub farkas_written : (t : T.Tree) (v : Vec (ℕ × ℕ) Global) (ms : List (ℕ × ℕ)) (old a b new : List ℕ) → t ≡ T.TheVariants.Farkas v → ms ≡ v.items → a ≡ old ++ 102 ∷ [] → b ≡ a ++ multipliers_text ms → new ≡ b ++ 10 ∷ []
    → new ≡ old ++ lines_text (tree_lines (tree_of t))
farkas_written t v ms old a b new e m f g h =
    let P : Tree → Type 0 = λ s. new ≡ old ++ lines_text (tree_lines s) in
    subst P (sym (ap tree_of e ∙ farkas_tree v ∙ ap Tree.farkas (sym m)))
    (h ∙ ap (λ (bs : List ℕ). bs ++ 10 ∷ []) (g ∙ ap (λ (bs : List ℕ). bs ++ multipliers_text ms) f)
    ∙ append_assoc (old ++ 102 ∷ []) (multipliers_text ms) (10 ∷ [])
    ∙ append_assoc old (102 ∷ []) (multipliers_text ms ++ 10 ∷ []))

pub multiplier_written : (ms : List (ℕ × ℕ)) (i : ℕ) (d : ℕ × ℕ) (old before a b e new : List ℕ) → i < length ms → before ≡ old ++ multipliers_text (take i ms)
    → a ≡ before ++ 32 ∷ [] → b ≡ a ++ decimal (get_or ms i d).0 → e ≡ b ++ 58 ∷ [] → new ≡ e ++ decimal (get_or ms i d).1
    → new ≡ old ++ multipliers_text (take (i + 1) ms)
multiplier_written ms i d old before a b e new l f g h j k =
    let x : List ℕ = decimal (get_or ms i d).0 in
    let y : List ℕ = decimal (get_or ms i d).1 in
    k ∙ ap (λ (bs : List ℕ). bs ++ y) (j ∙ ap (λ (bs : List ℕ). bs ++ 58 ∷ []) (h ∙ ap (λ (bs : List ℕ). bs ++ x) g))
    ∙ append_assoc ((before ++ 32 ∷ []) ++ x) (58 ∷ []) y
    ∙ append_assoc (before ++ 32 ∷ []) x (58 ∷ y)
    ∙ append_assoc before (32 ∷ []) (x ++ 58 ∷ y)
    ∙ ap (λ (bs : List ℕ). bs ++ multiplier_text (get_or ms i d)) f
    ∙ append_assoc old (multipliers_text (take i ms)) (multiplier_text (get_or ms i d))
    ∙ ap (λ (bs : List ℕ). old ++ bs) (sym (multipliers_text_more ms i d l))
