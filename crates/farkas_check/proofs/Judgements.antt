-- The results of the walk through a tree at its nodes.
use Rattle.std.proofs.Common.{◌≡◌, ℕ, List, [], ◌+◌, ◌*◌, ◌<◌, inl, inr, refl, sym, ap, ◌∙◌, subst, arith, Bool, true, false}
use Rattle.std.specs.Prelude.{ℤ, Option, Some, None, Result, Ok, Err, IfOk, map}
use Rattle.std.specs.declared.boxed.Box.{Box}
use Rattle.std.specs.declared.alloc.Global.{Global}
use Rattle.std.specs.declared.vec.Vec.{Vec}
use Rattle.std.proofs.lemmas.Simd.{map-map}
use Rattle.heylo_formula.specs.Goals.{Goal}
use Rattle.linear_form.specs.Query.{Query, Atom, Taken, onto}
use Rattle.linear_form.specs.Query.Query.{done, bits, ask}
use Rattle.linear_form.specs.Questions.{Ends}
use Rattle.linear_form.specs.Splits.{split_at}
use Rattle.linear_form.specs.AskAnswers.{Answers}
use Rattle.linear_form.specs.Paths.{Asks, IsPath, end_at}
use Rattle.linear_form.specs.PathRows.{rows_of, IsPlainAt}
use Rattle.linear_rows.specs.Row.{Row}
use Rattle.linear_rows.specs.Combination.{IsContradiction}
use Rattle.linear_form.specs.PlainPaths.{atom_of, taken_of, path_of}
use Rattle.linear_form.specs.declared.paths.Atom as A
use Rattle.linear_form.specs.declared.paths.Taken as T
use Rattle.linear_form.specs.declared.questions.Ask as Q
use Rattle.linear_values.specs.declared.lin.Lin.{Lin}
use Rattle.linear_form.proofs.exported.PathSteps.{asked_onto, split_onto}
use Rattle.goal_answers.specs.declared.trees.Tree as K
use Rattle.goal_answers.specs.declared.trees.Tree.TheOpen.{Tree-F}
use Rattle.goal_answers.specs.declared.trees.Tree.TheFolds.{fold-roll-Tree}
use Rattle.goal_answers.specs.Trees.{Tree, tree_of, tree_layer}
use Rattle.farkas_check.specs.AcceptedCertificates.{has_denied, CanSplit, IsAccepted, IsRefused, answers}
use Rattle.farkas_check.specs.internal.Trails.{IsTrail, IsSame}
use Rattle.farkas_check.specs.internal.Findings.{IsRefusedAt, IsJudgement, IsFindingAtStart, AreFindings}
use Rattle.farkas_check.specs.declared.trail.Trail.{Trail}
use Rattle.farkas_check.specs.declared.checker.Judged as J
use Rattle.farkas_check.proofs.TrailSteps.{none_refuted}

split_tree : (a b : Box K.Tree Global) → tree_of (K.TheVariants.Split a b) ≡ Tree.split (tree_of a.value) (tree_of b.value)
split_tree a b = ap tree_of (sym (K.TheVariants.rolls-Split a b)) ∙ fold-roll-Tree Tree tree_layer (Tree-F.Split a b) ∙ refl

farkas_tree : (ms : Vec (ℕ × ℕ) Global) → tree_of (K.TheVariants.Farkas ms) ≡ Tree.farkas ms.items
farkas_tree ms = ap tree_of (sym (K.TheVariants.rolls-Farkas ms)) ∙ fold-roll-Tree Tree tree_layer (Tree-F.Farkas ms) ∙ refl

plain_tree : tree_of K.TheVariants.Plain ≡ Tree.plain
plain_tree = ap tree_of (sym K.TheVariants.rolls-Plain) ∙ fold-roll-Tree Tree tree_layer Tree-F.Plain ∙ refl

whole_tree : (x : ℕ) (m : ℤ) (a b : Box K.Tree Global) → tree_of (K.TheVariants.Whole x m a b) ≡ Tree.whole x m (tree_of a.value) (tree_of b.value)
whole_tree x m a b = ap tree_of (sym (K.TheVariants.rolls-Whole x m a b)) ∙ fold-roll-Tree Tree tree_layer (Tree-F.Whole x m a b) ∙ refl

-- ---- The end of the trail

pub asked : (g : Goal) (now items : List T.Taken) (q : A.Atom) (k : Q.Ask) → Answers k (end_at g (path_of now)) → now ≡ items → k ≡ Q.TheVariants.Decide q → Asks g (path_of items) (atom_of q)
asked g now items q k h e i = subst (λ ps. Asks g (path_of ps) (atom_of q)) e (go (end_at g (path_of now)) refl (subst (λ (k : Q.Ask). Answers k (end_at g (path_of now))) i h))
  where
    go : (t : Query Ends) → end_at g (path_of now) ≡ t → Answers (Q.TheVariants.Decide q) t → Asks g (path_of now) (atom_of q)
    go (done x) l m = absurd m
    go bits l m = absurd m
    go (ask r y n) l m = record { yes = y; no = n; question = l ∙ ap (λ a. ask a y n) (sym m) }

pub ended_unasked : (g : Goal) (now items : List T.Taken) (x y : Option Lin) (k : Q.Ask) → Answers k (end_at g (path_of now)) → now ≡ items → k ≡ Q.TheVariants.End x y → (q : Atom) → Asks g (path_of items) q → ⊥
ended_unasked g now items x y k h e i q a = subst (Answers (Q.TheVariants.End x y)) (ap (λ ps. end_at g (path_of ps)) e ∙ a.question) (subst (λ (k : Q.Ask). Answers k (end_at g (path_of now))) i h)

pub bits_unasked : (g : Goal) (now items : List T.Taken) (k : Q.Ask) → Answers k (end_at g (path_of now)) → now ≡ items → k ≡ Q.TheVariants.Bits → (q : Atom) → Asks g (path_of items) q → ⊥
bits_unasked g now items k h e i q a = subst (Answers Q.TheVariants.Bits) (ap (λ ps. end_at g (path_of ps)) e ∙ a.question) (subst (λ (k : Q.Ask). Answers k (end_at g (path_of now))) i h)

pub question_onto : (g : Goal) (items : List T.Taken) (q : A.Atom) → IsPath g (path_of items) → Asks g (path_of items) (atom_of q) → (held : Bool) → IsPath g (onto (path_of items) (atom_of q) held)
question_onto g items q p a held = asked_onto g (path_of items) (atom_of q) held p a

pub halves_onto : (g : Goal) (items : List T.Taken) (x : ℕ) (m : ℤ) (q : A.Atom) → IsPath g (path_of items) → CanSplit g (path_of items) x → atom_of q ≡ split_at x m → (held : Bool) → IsPath g (onto (path_of items) (atom_of q) held)
halves_onto g items x m q p a e held = subst (λ r. IsPath g (onto (path_of items) r held)) (sym e) (split_onto g (path_of items) x m held a.ends p a.at_end a.whole_type)

-- ---- A node that is refused

answers_here : (now items : List T.Taken) (place : List Bool) → place ≡ map (λ (p : T.Taken). p.held) now → now ≡ items → answers (path_of items) ≡ place
answers_here now items place h e = ap (λ ps. answers (path_of ps)) (sym e) ∙ map-map (λ (p : Taken). p.held) taken_of now ∙ sym h

pub refused_here : {E : Type 0} (r : Result J.Judged E) (g : Goal) (now : List T.Taken) (s : Trail) (t : Tree) → IsRefused g (path_of s.path.items) t (answers (path_of s.path.items)) → now ≡ s.path.items → IfOk r (IsRefusedAt now) → IfOk r (IsJudgement g s t)
refused_here (Ok (J.TheVariants.Accepted back)) g now s t n e h = absurd h
refused_here (Ok (J.TheVariants.Refused place)) g now s t n e h = subst (IsRefused g (path_of s.path.items) t) (answers_here now s.path.items place.items h e) n
refused_here (Err x) g now s t n e h = h

pub no_question_here : {E : Type 0} (r : Result J.Judged E) (g : Goal) (now : List T.Taken) (s : Trail) (t : K.Tree) (a b : Box K.Tree Global) → t ≡ K.TheVariants.Split a b → ((q : Atom) → Asks g (path_of s.path.items) q → ⊥) → now ≡ s.path.items → IfOk r (IsRefusedAt now) → IfOk r (IsJudgement g s (tree_of t))
no_question_here r g now s t a b k n e h = subst (λ u. IfOk r (IsJudgement g s u)) (sym (ap tree_of k ∙ split_tree a b)) (refused_here r g now s _ (IsRefused.no_question (path_of s.path.items) (tree_of a.value) (tree_of b.value) n) e h)

pub no_split_here : {E : Type 0} (r : Result J.Judged E) (g : Goal) (now later : List T.Taken) (s : Trail) (t : K.Tree) (x : ℕ) (m : ℤ) (a b : Box K.Tree Global) → t ≡ K.TheVariants.Whole x m a b → (CanSplit g (path_of now) x → ⊥) → now ≡ s.path.items → later ≡ s.path.items → IfOk r (IsRefusedAt later) → IfOk r (IsJudgement g s (tree_of t))
no_split_here r g now later s t x m a b k n e l h = subst (λ u. IfOk r (IsJudgement g s u)) (sym (ap tree_of k ∙ whole_tree x m a b)) (refused_here r g later s _ (IsRefused.no_split (path_of s.path.items) x m (tree_of a.value) (tree_of b.value) (λ c. n (subst (λ ps. CanSplit g (path_of ps) x) (sym e) c))) l h)

pub not_plain_here : {E : Type 0} (r : Result J.Judged E) (g : Goal) (now later : List T.Taken) (s : Trail) (t : K.Tree) → t ≡ K.TheVariants.Plain → (IsPlainAt g (path_of now) → ⊥) → now ≡ s.path.items → later ≡ s.path.items → IfOk r (IsRefusedAt later) → IfOk r (IsJudgement g s (tree_of t))
not_plain_here r g now later s t k n e l h = subst (λ u. IfOk r (IsJudgement g s u)) (sym (ap tree_of k ∙ plain_tree)) (refused_here r g later s _ (IsRefused.not_plain (path_of s.path.items) (λ c. n (subst (λ ps. IsPlainAt g (path_of ps)) (sym e) c))) l h)

-- ---- A node with two parts

both_found : {E : Type 0} (r : Result J.Judged E) (g : Goal) (s : Trail) (q : Atom) (t u v : Tree) → (IsAccepted g (onto (path_of s.path.items) q true) u → IsAccepted g (onto (path_of s.path.items) q false) v → IsAccepted g (path_of s.path.items) t) → ((place : List Bool) → IsRefused g (onto (path_of s.path.items) q true) u place → IsRefused g (path_of s.path.items) t place) → ((place : List Bool) → IsAccepted g (onto (path_of s.path.items) q true) u → IsRefused g (onto (path_of s.path.items) q false) v place → IsRefused g (path_of s.path.items) t place) → IfOk r (AreFindings g s q u v) → IfOk r (IsJudgement g s t)
both_found (Ok (J.TheVariants.Accepted back)) g s q t u v a b c h = (h.0, a h.1 h.2)
both_found (Ok (J.TheVariants.Refused place)) g s q t u v a b c (inl h) = b place.items h
both_found (Ok (J.TheVariants.Refused place)) g s q t u v a b c (inr h) = c place.items h.0 h.1
both_found (Err x) g s q t u v a b c h = h

pub split_found : {E : Type 0} (r : Result J.Judged E) (g : Goal) (s : Trail) (t d f : K.Tree) (a b : Box K.Tree Global) (q : A.Atom) → t ≡ K.TheVariants.Split a b → Asks g (path_of s.path.items) (atom_of q) → d ≡ a.value → f ≡ b.value → IfOk r (AreFindings g s (atom_of q) (tree_of d) (tree_of f)) → IfOk r (IsJudgement g s (tree_of t))
split_found r g s t d f a b q k w e m h = subst (λ u. IfOk r (IsJudgement g s u)) (sym (ap tree_of k ∙ split_tree a b)) (both_found r g s (atom_of q) _ (tree_of a.value) (tree_of b.value) (IsAccepted.split (path_of s.path.items) (atom_of q) (tree_of a.value) (tree_of b.value) w) (λ place. IsRefused.first (path_of s.path.items) (atom_of q) (tree_of a.value) (tree_of b.value) place w) (λ place. IsRefused.second (path_of s.path.items) (atom_of q) (tree_of a.value) (tree_of b.value) place w) (subst (λ y. IfOk r (AreFindings g s (atom_of q) (tree_of a.value) (tree_of y))) m (subst (λ y. IfOk r (AreFindings g s (atom_of q) (tree_of y) (tree_of f))) e h)))

pub whole_found : {E : Type 0} (r : Result J.Judged E) (g : Goal) (now : List T.Taken) (s : Trail) (t d f : K.Tree) (x : ℕ) (m : ℤ) (a b : Box K.Tree Global) (q : A.Atom) → t ≡ K.TheVariants.Whole x m a b → CanSplit g (path_of now) x → now ≡ s.path.items → atom_of q ≡ split_at x m → d ≡ a.value → f ≡ b.value → IfOk r (AreFindings g s (atom_of q) (tree_of d) (tree_of f)) → IfOk r (IsJudgement g s (tree_of t))
whole_found r g now s t d f x m a b q k w n i e l h = let c = subst (λ ps. CanSplit g (path_of ps) x) n w in subst (λ u. IfOk r (IsJudgement g s u)) (sym (ap tree_of k ∙ whole_tree x m a b)) (both_found r g s (split_at x m) _ (tree_of a.value) (tree_of b.value) (IsAccepted.whole (path_of s.path.items) x m (tree_of a.value) (tree_of b.value) c) (λ place. IsRefused.first_half (path_of s.path.items) x m (tree_of a.value) (tree_of b.value) place c) (λ place. IsRefused.second_half (path_of s.path.items) x m (tree_of a.value) (tree_of b.value) place c) (subst (λ y. IfOk r (AreFindings g s (split_at x m) (tree_of a.value) (tree_of y))) l (subst (λ y. IfOk r (AreFindings g s (split_at x m) (tree_of y) (tree_of f))) e (subst (λ y. IfOk r (AreFindings g s y (tree_of d) (tree_of f))) i h))))

-- ---- A leaf

pub same_trail : (s : Trail) → IsSame s s
same_trail s = record { path = refl; rows = refl; stated = refl }

pub plain_found : (g : Goal) (now : List T.Taken) (s : Trail) (t : K.Tree) → t ≡ K.TheVariants.Plain → IsPlainAt g (path_of now) → now ≡ s.path.items → IsSame s s × IsAccepted g (path_of s.path.items) (tree_of t)
plain_found g now s t k h e = (same_trail s, subst (IsAccepted g (path_of s.path.items)) (sym (ap tree_of k ∙ plain_tree)) (IsAccepted.plain (path_of s.path.items) (subst (λ ps. IsPlainAt g (path_of ps)) e h)))

pub multipliers_found : {E : Type 0} (r : Result J.Judged E) (g : Goal) (s : Trail) (t : K.Tree) (ms : Vec (ℕ × ℕ) Global) (ns : List (ℕ × ℕ)) → t ≡ K.TheVariants.Farkas ms → ns ≡ ms.items → IfOk r (IsJudgement g s (Tree.farkas ns)) → IfOk r (IsJudgement g s (tree_of t))
multipliers_found r g s t ms ns k e h = subst (λ u. IfOk r (IsJudgement g s u)) (sym (ap tree_of k ∙ farkas_tree ms ∙ ap Tree.farkas (sym e))) h

pub unstated_here : {E : Type 0} (r : Result J.Judged E) (g : Goal) (now : List T.Taken) (s : Trail) (ms : List (ℕ × ℕ)) → IsTrail g s → s.stated ≡ false → now ≡ s.path.items → IfOk r (IsRefusedAt now) → IfOk r (IsJudgement g s (Tree.farkas ms))
unstated_here r g now s ms h f e k = refused_here r g now s (Tree.farkas ms) (IsRefused.no_contradiction (path_of s.path.items) ms (none_refuted g s ms h f)) e k

pub no_rows_here : {E : Type 0} (r : Result J.Judged E) (g : Goal) (now : List T.Taken) (s : Trail) (ms : List (ℕ × ℕ)) → rows_of g (path_of s.path.items) (has_denied g (path_of s.path.items)) ≡ None → now ≡ s.path.items → IfOk r (IsRefusedAt now) → IfOk r (IsJudgement g s (Tree.farkas ms))
no_rows_here r g now s ms n e k = refused_here r g now s (Tree.farkas ms) (IsRefused.no_contradiction (path_of s.path.items) ms (λ c. let i = sym c.are_rows ∙ n in absurd (cc))) e k

pub unrefuted_here : {E : Type 0} (r : Result J.Judged E) (g : Goal) (now : List T.Taken) (s : Trail) (rows : List Row) (ms : List (ℕ × ℕ)) → rows_of g (path_of s.path.items) (has_denied g (path_of s.path.items)) ≡ Some rows → (IsContradiction ms rows → ⊥) → now ≡ s.path.items → IfOk r (IsRefusedAt now) → IfOk r (IsJudgement g s (Tree.farkas ms))
unrefuted_here r g now s rows ms a n e k = refused_here r g now s (Tree.farkas ms) (IsRefused.no_contradiction (path_of s.path.items) ms (λ c. let o : Some c.rows ≡ Some rows = sym c.are_rows ∙ a in let same : c.rows ≡ rows = cc in n (subst (IsContradiction ms) same c.contradiction))) e k

pub refuted_here : (g : Goal) (s back : Trail) (rows : List Row) (ms : List (ℕ × ℕ)) → rows_of g (path_of s.path.items) (has_denied g (path_of s.path.items)) ≡ Some rows → IsContradiction ms rows → IsSame s back → IsSame s back × IsAccepted g (path_of s.path.items) (Tree.farkas ms)
refuted_here g s back rows ms a c h = (h, IsAccepted.farkas (path_of s.path.items) ms (record { rows = rows; are_rows = a; contradiction = c }))

-- ---- Before the first comparison

pub at_start : {E : Type 0} (r : Result J.Judged E) (g : Goal) (s : Trail) (t : Tree) → s.path.items ≡ [] → IfOk r (IsJudgement g s t) → IfOk r (IsFindingAtStart g t)
at_start (Ok (J.TheVariants.Accepted back)) g s t e h = subst (λ (ps : List T.Taken). IsAccepted g (path_of ps) t) e h.1
at_start (Ok (J.TheVariants.Refused place)) g s t e h = subst (λ (ps : List T.Taken). IsRefused g (path_of ps) t place.items) e h
at_start (Err x) g s t e h = h

-- ---- The tree becomes lower

abbrev pub height : Tree → ℕ
height (Tree.split t u) = height t + height u + 1
height (Tree.farkas ms) = 0
height Tree.plain = 0
height (Tree.whole x m t u) = height t + height u + 1

lower_parts : (t : Tree) (a b n : ℕ) → height t ≡ a + b + 1 → 2 * height t ≡ n → 1 + 2 * (a + b) < n
lower_parts t a b n e h = omega (arith, e, h)

pub lower_split : (t d f : K.Tree) (a b : Box K.Tree Global) (n : ℕ) → t ≡ K.TheVariants.Split a b → d ≡ a.value → f ≡ b.value → 2 * height (tree_of t) ≡ n → 1 + 2 * (height (tree_of d) + height (tree_of f)) < n
lower_split t d f a b n k e m h = lower_parts (tree_of t) (height (tree_of d)) (height (tree_of f)) n (let i = ap (λ u. height (tree_of u)) e in let j = ap (λ u. height (tree_of u)) m in let l = ap height (ap tree_of k ∙ split_tree a b) in omega (arith, i, j, l)) h

pub lower_whole : (t d f : K.Tree) (x : ℕ) (m : ℤ) (a b : Box K.Tree Global) (n : ℕ) → t ≡ K.TheVariants.Whole x m a b → d ≡ a.value → f ≡ b.value → 2 * height (tree_of t) ≡ n → 1 + 2 * (height (tree_of d) + height (tree_of f)) < n
lower_whole t d f x m a b n k e o h = lower_parts (tree_of t) (height (tree_of d)) (height (tree_of f)) n (let i = ap (λ u. height (tree_of u)) e in let j = ap (λ u. height (tree_of u)) o in let l = ap height (ap tree_of k ∙ whole_tree x m a b) in omega (arith, i, j, l)) h

pub lower_first : (a b n : ℕ) → 1 + 2 * (a + b) ≡ n → 2 * a < n
lower_first a b n h = omega (arith, h)

pub lower_second : (a b n : ℕ) → 1 + 2 * (a + b) ≡ n → 2 * b < n
lower_second a b n h = omega (arith, h)
