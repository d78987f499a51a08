-- The lines of a list of certificates lead from the start of reading to its end, and no other lines
-- do.
use Rattle.std.proofs.Common.{◌≡◌, ◌+◌, ◌<◌, ◌≤◌, Bool, true, false, cond, ◌||◌, ◌&&◌, IsTrue, List, [], ◌∷◌, ◌++◌, Option, Some, None, length, nat_lt, refl, sym, ap, ◌∙◌, subst, arith, append_assoc}
use Rattle.std.proofs.lemmas.List.{append-nil}
use Rattle.std.specs.List.{AllByRecursion}
use Rattle.goal_answers.specs.Trees.{Tree, depth}
use Rattle.cert_text.specs.declared.goal_names.GoalName.{GoalName}
use Rattle.cert_text.specs.declared.nodes.Node.{Node}
use Rattle.cert_text.specs.declared.nodes.Node.TheVariants.{Question, Whole}
use Rattle.cert_text.specs.declared.states.Edition.{Edition}
use Rattle.cert_text.specs.declared.states.Edition.TheVariants.{One, Lacking, Two}
use Rattle.cert_text.specs.declared.versions.Version.{Version}
use Rattle.cert_text.specs.declared.versions.Version.TheVariants as versions
use Rattle.cert_text.specs.Certificates.{Certificate, may_follow, IsGrowingAfter, IsNumbered, IsWholeSplit, HasNumbers, IsWritable, AreWritable}
use Rattle.cert_text.specs.Lines.{Line, title, goal, split, whole, farkas, plain, last}
use Rattle.cert_text.specs.internal.WholeLines.{IsLine}
use Rattle.cert_text.specs.Texts.{has_whole, have_whole, tree_lines, goals_lines, certificate_lines}
use Rattle.cert_text.specs.internal.ReadStates.{Way, Open, Filled, complete, part, joined, fill, may_split, may_end, edition_of, State, start, between, inside, done, filled_state, next, advance, run}
use Rattle.cert_text.proofs.Editions.{IsAllowed, passed, passed_twice, passed_same, allowed_first, allowed_second, splits, title_of, ends_in, begins_with}

pub run-append : (ks ls : List Line) (o : Option State) → run (ks ++ ls) o ≡ run ls (run ks o)
run-append [] ls o = refl
run-append (k ∷ ks) ls o = run-append ks ls (advance k o)

pub run-None : (ls : List Line) → run ls None ≡ None
run-None [] = refl
run-None (l ∷ ls) = run-None ls

pub depth_positive : (t : Tree) → 1 ≤ depth t
depth_positive (Tree.split t u) = omega arith
depth_positive (Tree.farkas ms) = omega arith
depth_positive Tree.plain = omega arith
depth_positive (Tree.whole x m t u) = omega arith

room_for_two : (t u : Tree) (os : Open) → depth (Tree.split t u) + length os ≤ 1000 → nat_lt (length os) 999 ≡ true
room_for_two t u os room =
    let p = depth_positive t in
    let less : length os < 999 = omega arith in
    grind arith

pub run-tree_lines : (t : Tree) (ls : List Line) (e : Edition) (cs : List Certificate) (n : GoalName) (os : Open) → depth t + length os ≤ 1000 → IsAllowed e (has_whole t)
    → run (tree_lines t ++ ls) (Some (inside e cs n os)) ≡ run ls (Some (filled_state (passed e (has_whole t)) cs n (fill os t)))
run-tree_lines (Tree.split t u) ls e cs n os room allowed =
    let one : Open = Way.first Question ∷ os in
    let two : Open = Way.second Question t ∷ os in
    let first : depth t + length one ≤ 1000 = omega arith in
    let second : depth u + length two ≤ 1000 = omega arith in
    let after : Edition = passed e (has_whole t) in
    ap (λ (b : Bool). run ((tree_lines t ++ tree_lines u) ++ ls) (cond b (Some (inside e cs n one)) None)) (room_for_two t u os room)
    ∙ ap (λ (ks : List Line). run ks (Some (inside e cs n one))) (append_assoc (tree_lines t) (tree_lines u) ls)
    ∙ run-tree_lines t (tree_lines u ++ ls) e cs n one first (allowed_first e (has_whole t) (has_whole u) allowed)
    ∙ run-tree_lines u ls after cs n two second (allowed_second e (has_whole t) (has_whole u) allowed)
    ∙ ap (λ (f : Edition). run ls (Some (filled_state f cs n (fill os (Tree.split t u))))) (passed_twice e (has_whole t) (has_whole u))
run-tree_lines (Tree.farkas ms) ls e cs n os room allowed = ap (λ (f : Edition). run ls (Some (filled_state f cs n (fill os (Tree.farkas ms))))) (sym (passed_same e))
run-tree_lines Tree.plain ls e cs n os room allowed = ap (λ (f : Edition). run ls (Some (filled_state f cs n (fill os Tree.plain)))) (sym (passed_same e))
run-tree_lines (Tree.whole x m t u) ls e cs n os room allowed =
    let k : Node = Whole x m in
    let one : Open = Way.first k ∷ os in
    let two : Open = Way.second k t ∷ os in
    let first : depth t + length one ≤ 1000 = omega arith in
    let second : depth u + length two ≤ 1000 = omega arith in
    let open' : (may_split e && nat_lt (length os) 999) ≡ true = begins_with e (nat_lt (length os) 999) allowed (room_for_two t u os room) in
    ap (λ (b : Bool). run ((tree_lines t ++ tree_lines u) ++ ls) (cond b (Some (inside Two cs n one)) None)) open'
    ∙ ap (λ (ks : List Line). run ks (Some (inside Two cs n one))) (append_assoc (tree_lines t) (tree_lines u) ls)
    ∙ run-tree_lines t (tree_lines u ++ ls) Two cs n one first tt
    ∙ run-tree_lines u ls Two cs n two second tt
    ∙ ap (λ (f : Edition). run ls (Some (filled_state f cs n (fill os (Tree.whole x m t u))))) (ends_in e allowed)

abbrev pub latest_of : Option GoalName → List Certificate → Option GoalName
latest_of latest [] = latest
latest_of latest (c ∷ cs) = latest_of (Some c.name) cs

pub run-goals_lines : (more cs : List Certificate) (ls : List Line) (e : Edition) (latest : Option GoalName) → IsGrowingAfter latest more → AllByRecursion IsWritable more → IsAllowed e (have_whole more)
    → run (goals_lines more ++ ls) (Some (between e cs latest)) ≡ run ls (Some (between (passed e (have_whole more)) (cs ++ more) (latest_of latest more)))
run-goals_lines [] cs ls e latest growing each allowed =
    ap (λ (xs : List Certificate). run ls (Some (between e xs latest))) (sym (append-nil cs)) ∙ ap (λ (f : Edition). run ls (Some (between f (cs ++ []) latest))) (sym (passed_same e))
run-goals_lines (c ∷ more) cs ls e latest growing each allowed =
    let none : Open = [] in
    let room : depth c.tree + length none ≤ 1000 = omega (arith, each.0.depth) in
    let after : Edition = passed e (has_whole c.tree) in
    ap (λ (b : Bool). run ((tree_lines c.tree ++ goals_lines more) ++ ls) (cond b (Some (inside e cs c.name none)) None)) growing.0
    ∙ ap (λ (ks : List Line). run ks (Some (inside e cs c.name none))) (append_assoc (tree_lines c.tree) (goals_lines more) ls)
    ∙ run-tree_lines c.tree (goals_lines more ++ ls) e cs c.name none room (allowed_first e (has_whole c.tree) (have_whole more) allowed)
    ∙ run-goals_lines more (cs ++ c ∷ []) ls after (Some c.name) growing.1 each.1 (allowed_second e (has_whole c.tree) (have_whole more) allowed)
    ∙ ap (λ (xs : List Certificate). run ls (Some (between (passed after (have_whole more)) xs (latest_of (Some c.name) more)))) (append_assoc cs (c ∷ []) more)
    ∙ ap (λ (f : Edition). run ls (Some (between f (cs ++ c ∷ more) (latest_of (Some c.name) more)))) (passed_twice e (has_whole c.tree) (have_whole more))

run_titled : (cs : List Certificate) (w : Bool) → AreWritable cs → have_whole cs ≡ w → run (title (cond w versions.Two versions.One) ∷ (goals_lines cs ++ last ∷ [])) (Some start) ≡ Some (done cs)
run_titled cs false s e =
    let none : List Certificate = [] in
    run-goals_lines cs none (last ∷ []) One None s.growing s.each e
run_titled cs true s e =
    let none : List Certificate = [] in
    run-goals_lines cs none (last ∷ []) Lacking None s.growing s.each tt
    ∙ ap (λ (w : Bool). run (last ∷ []) (Some (between (passed Lacking w) cs (latest_of None cs)))) e

pub run-certificate_lines : (cs : List Certificate) → AreWritable cs → run (certificate_lines cs) (Some start) ≡ Some (done cs)
run-certificate_lines cs w = run_titled cs (have_whole cs) w refl

pub run-front_lines : (cs : List Certificate) → AreWritable cs → run (title versions.Two ∷ goals_lines cs) (Some start) ≡ Some (between (passed Lacking (have_whole cs)) cs (latest_of None cs))
run-front_lines cs w =
    let none : List Certificate = [] in
    ap (λ (ls : List Line). run ls (Some (between Lacking none None))) (sym (append-nil (goals_lines cs))) ∙ run-goals_lines cs none [] Lacking None w.growing w.each tt

abbrev pub node_line : Node → Line
node_line Question = split
node_line (Whole x m) = whole x m

abbrev pub open_lines : Open → List Line
open_lines [] = []
open_lines (Way.first k ∷ os) = open_lines os ++ node_line k ∷ []
open_lines (Way.second k y ∷ os) = open_lines os ++ node_line k ∷ tree_lines y

abbrev pub filled_lines : Filled → List Line
filled_lines (complete t) = tree_lines t
filled_lines (part os) = open_lines os

joined_lines : (k : Node) (t u : Tree) → tree_lines (joined k t u) ≡ node_line k ∷ (tree_lines t ++ tree_lines u)
joined_lines Question t u = refl
joined_lines (Whole x m) t u = refl

pub fill-lines : (os : Open) (t : Tree) → filled_lines (fill os t) ≡ open_lines os ++ tree_lines t
fill-lines [] t = refl
fill-lines (Way.first k ∷ os) t = sym (append_assoc (open_lines os) (node_line k ∷ []) (tree_lines t))
fill-lines (Way.second k y ∷ os) t =
    fill-lines os (joined k y t) ∙ ap (λ (ls : List Line). open_lines os ++ ls) (joined_lines k y t) ∙ sym (append_assoc (open_lines os) (node_line k ∷ tree_lines y) (tree_lines t))

abbrev pub read_lines : State → List Line
read_lines start = []
read_lines (between e cs latest) = title (title_of e) ∷ goals_lines cs
read_lines (inside e cs n os) = title (title_of e) ∷ (goals_lines cs ++ goal n ∷ open_lines os)
read_lines (done cs) = certificate_lines cs

-- Whether the line is an integer split.

abbrev pub splits_whole : Line → Bool
splits_whole (title v) = false
splits_whole (goal n) = false
splits_whole split = false
splits_whole (whole x m) = true
splits_whole (farkas ms) = false
splits_whole plain = false
splits_whole last = false

-- Whether one of the lines is an integer split.
abbrev pub some_whole : List Line → Bool
some_whole [] = false
some_whole (l ∷ ls) = splits_whole l || some_whole ls

or_assoc : (a b c : Bool) → ((a || b) || c) ≡ (a || (b || c))
or_assoc true b c = refl
or_assoc false b c = refl

or_true : (a : Bool) → (a || true) ≡ true
or_true true = refl
or_true false = refl

or_false : (a : Bool) → (a || false) ≡ a
or_false true = refl
or_false false = refl

some_whole-append : (ks ls : List Line) → some_whole (ks ++ ls) ≡ (some_whole ks || some_whole ls)
some_whole-append [] ls = refl
some_whole-append (k ∷ ks) ls = ap (λ (b : Bool). splits_whole k || b) (some_whole-append ks ls) ∙ sym (or_assoc (splits_whole k) (some_whole ks) (some_whole ls))

some_whole_push : (ls : List Line) (l : Line) → some_whole (ls ++ l ∷ []) ≡ (some_whole ls || splits_whole l)
some_whole_push ls l = some_whole-append ls (l ∷ []) ∙ ap (λ (b : Bool). some_whole ls || b) (or_false (splits_whole l))

tree_whole : (t : Tree) → some_whole (tree_lines t) ≡ has_whole t
tree_whole (Tree.split t u) = some_whole-append (tree_lines t) (tree_lines u) ∙ ap (λ (b : Bool). b || some_whole (tree_lines u)) (tree_whole t) ∙ ap (λ (b : Bool). has_whole t || b) (tree_whole u)
tree_whole (Tree.farkas ms) = refl
tree_whole Tree.plain = refl
tree_whole (Tree.whole x m t u) = refl

goals_whole : (cs : List Certificate) → some_whole (goals_lines cs) ≡ have_whole cs
goals_whole [] = refl
goals_whole (c ∷ cs) = some_whole-append (tree_lines c.tree) (goals_lines cs) ∙ ap (λ (b : Bool). b || some_whole (goals_lines cs)) (tree_whole c.tree) ∙ ap (λ (b : Bool). has_whole c.tree || b) (goals_whole cs)

-- The edition of a state agrees with the lines that lead to it.
abbrev pub IsTold : State → Type 0
IsTold start = Unit {0}
IsTold (between e cs latest) = splits e ≡ some_whole (read_lines (between e cs latest))
IsTold (inside e cs n os) = splits e ≡ some_whole (read_lines (inside e cs n os))
IsTold (done cs) = Unit {0}

goals_lines-append : (cs more : List Certificate) → goals_lines (cs ++ more) ≡ goals_lines cs ++ goals_lines more
goals_lines-append [] more = refl
goals_lines-append (c ∷ cs) more = ap (λ (ls : List Line). goal c.name ∷ (tree_lines c.tree ++ ls)) (goals_lines-append cs more) ∙ ap (λ (ls : List Line). goal c.name ∷ ls) (sym (append_assoc (tree_lines c.tree) (goals_lines cs) (goals_lines more)))

goals_lines_push : (cs : List Certificate) (n : GoalName) (t : Tree)
    → goals_lines (cs ++ (record { name = n; tree = t }) ∷ []) ≡ goals_lines cs ++ goal n ∷ tree_lines t
goals_lines_push cs n t = goals_lines-append cs ((record { name = n; tree = t }) ∷ []) ∙ ap (λ (ls : List Line). goals_lines cs ++ goal n ∷ ls) (append-nil (tree_lines t))

filled_state_lines : (e : Edition) (cs : List Certificate) (n : GoalName) (f : Filled) → read_lines (filled_state e cs n f) ≡ title (title_of e) ∷ (goals_lines cs ++ goal n ∷ filled_lines f)
filled_state_lines e cs n (complete t) = ap (λ (ls : List Line). title (title_of e) ∷ ls) (goals_lines_push cs n t)
filled_state_lines e cs n (part os) = refl

leaf_lines : (e : Edition) (cs : List Certificate) (n : GoalName) (os : Open) (t : Tree) (l : Line) → tree_lines t ≡ l ∷ []
    → read_lines (filled_state e cs n (fill os t)) ≡ read_lines (inside e cs n os) ++ l ∷ []
leaf_lines e cs n os t l f =
    filled_state_lines e cs n (fill os t)
    ∙ ap (λ (ls : List Line). title (title_of e) ∷ (goals_lines cs ++ goal n ∷ ls)) (fill-lines os t ∙ ap (λ (ls : List Line). open_lines os ++ ls) f)
    ∙ ap (λ (ls : List Line). title (title_of e) ∷ ls) (sym (append_assoc (goals_lines cs) (goal n ∷ open_lines os) (l ∷ [])))

cond_some : {A : Type 0} (b : Bool) (x y : A) → cond b (Some x) None ≡ Some y → (b ≡ true) × (x ≡ y)
cond_some true x y e = (refl, cc)
cond_some false x y e = absurd (cc)

and_both : (a b : Bool) → (a && b) ≡ true → (a ≡ true) × (b ≡ true)
and_both true b e = (refl, e)
and_both false b e = absurd (cc)

pushed_lines : (e f : Edition) (cs : List Certificate) (n : GoalName) (os : Open) (k : Node) → title_of f ≡ title_of e
    → read_lines (inside f cs n (Way.first k ∷ os)) ≡ read_lines (inside e cs n os) ++ node_line k ∷ []
pushed_lines e f cs n os k same =
    ap (λ (v : Version). title v ∷ (goals_lines cs ++ goal n ∷ (open_lines os ++ node_line k ∷ []))) same
    ∙ ap (λ (ls : List Line). title (title_of e) ∷ ls) (sym (append_assoc (goals_lines cs) (goal n ∷ open_lines os) (node_line k ∷ [])))

ended_title : (e : Edition) (w : Bool) → may_end e ≡ true → splits e ≡ w → cond w versions.Two versions.One ≡ title_of e
ended_title One true m s = absurd (cc)
ended_title One false m s = refl
ended_title Lacking w m s = absurd (cc)
ended_title Two true m s = refl
ended_title Two false m s = absurd (cc)

split_title : (e : Edition) → may_split e ≡ true → title_of Two ≡ title_of e
split_title One m = absurd (cc)
split_title Lacking m = refl
split_title Two m = refl

title_of_edition : (v : Version) → title_of (edition_of v) ≡ v
title_of_edition versions.One = refl
title_of_edition versions.Two = refl

pub next-lines : (s : State) (l : Line) (s' : State) → IsTold s → next s l ≡ Some s' → read_lines s' ≡ read_lines s ++ l ∷ []
next-lines start (title v) s' told e =
    let none : List Certificate = [] in
    let f : between (edition_of v) none None ≡ s' = cc in
    let P : State → Type 0 = λ s''. read_lines s'' ≡ title v ∷ [] in
    subst P f (ap (λ (w : Version). title w ∷ []) (title_of_edition v))
next-lines (between d cs latest) (goal n) s' told e =
    let none : Open = [] in
    let f = (cond_some (may_follow latest n) (inside d cs n none) s' e).1 in
    let P : State → Type 0 = λ s''. read_lines s'' ≡ title (title_of d) ∷ (goals_lines cs ++ goal n ∷ []) in
    subst P f refl
next-lines (between d cs latest) last s' told e =
    let f = cond_some (may_end d) (done cs) s' e in
    let P : State → Type 0 = λ s''. read_lines s'' ≡ title (title_of d) ∷ (goals_lines cs ++ last ∷ []) in
    subst P f.1 (ap (λ (v : Version). title v ∷ (goals_lines cs ++ last ∷ [])) (ended_title d (have_whole cs) f.0 (told ∙ goals_whole cs)))
next-lines (inside d cs n os) split s' told e =
    let one : Open = Way.first Question ∷ os in
    let f = (cond_some (nat_lt (length os) 999) (inside d cs n one) s' e).1 in
    let P : State → Type 0 = λ s''. read_lines s'' ≡ read_lines (inside d cs n os) ++ split ∷ [] in
    subst P f (pushed_lines d d cs n os Question refl)
next-lines (inside d cs n os) (whole x m) s' told e =
    let one : Open = Way.first (Whole x m) ∷ os in
    let f = cond_some (may_split d && nat_lt (length os) 999) (inside Two cs n one) s' e in
    let P : State → Type 0 = λ s''. read_lines s'' ≡ read_lines (inside d cs n os) ++ whole x m ∷ [] in
    subst P f.1 (pushed_lines d Two cs n os (Whole x m) (split_title d (and_both (may_split d) (nat_lt (length os) 999) f.0).0))
next-lines (inside d cs n os) (farkas ms) s' told e =
    let f : filled_state d cs n (fill os (Tree.farkas ms)) ≡ s' = cc in
    let P : State → Type 0 = λ s''. read_lines s'' ≡ read_lines (inside d cs n os) ++ farkas ms ∷ [] in
    subst P f (leaf_lines d cs n os (Tree.farkas ms) (farkas ms) refl)
next-lines (inside d cs n os) plain s' told e =
    let f : filled_state d cs n (fill os Tree.plain) ≡ s' = cc in
    let P : State → Type 0 = λ s''. read_lines s'' ≡ read_lines (inside d cs n os) ++ plain ∷ [] in
    subst P f (leaf_lines d cs n os Tree.plain plain refl)
next-lines s l s' told e = absurd (cc)

-- The edition of a state agrees with whether the lines that lead to it have an integer split.
abbrev IsEditionOf : Bool → State → Type 0
IsEditionOf w start = Unit {0}
IsEditionOf w (between e cs latest) = splits e ≡ w
IsEditionOf w (inside e cs n os) = splits e ≡ w
IsEditionOf w (done cs) = Unit {0}

filled_edition : (e : Edition) (cs : List Certificate) (n : GoalName) (f : Filled) (w : Bool) → splits e ≡ w → IsEditionOf w (filled_state e cs n f)
filled_edition e cs n (complete t) w h = h
filled_edition e cs n (part os) w h = h

told_from_edition : (s : State) (w : Bool) → IsEditionOf w s → w ≡ some_whole (read_lines s) → IsTold s
told_from_edition start w h e = tt
told_from_edition (between d cs latest) w h e = h ∙ e
told_from_edition (inside d cs n os) w h e = h ∙ e
told_from_edition (done cs) w h e = tt

edition_splits : (v : Version) → splits (edition_of v) ≡ false
edition_splits versions.One = refl
edition_splits versions.Two = refl

next_edition : (s : State) (l : Line) (s' : State) → IsTold s → next s l ≡ Some s' → IsEditionOf (some_whole (read_lines s) || splits_whole l) s'
next_edition start (title v) s' told e =
    let none : List Certificate = [] in
    let f : between (edition_of v) none None ≡ s' = cc in
    let P : State → Type 0 = IsEditionOf false in
    subst P f (edition_splits v)
next_edition (between d cs latest) (goal n) s' told e =
    let none : Open = [] in
    let f = (cond_some (may_follow latest n) (inside d cs n none) s' e).1 in
    let P : State → Type 0 = IsEditionOf (some_whole (goals_lines cs) || false) in
    subst P f (told ∙ sym (or_false (some_whole (goals_lines cs))))
next_edition (between d cs latest) last s' told e =
    let f = (cond_some (may_end d) (done cs) s' e).1 in
    let P : State → Type 0 = IsEditionOf (some_whole (goals_lines cs) || false) in
    subst P f tt
next_edition (inside d cs n os) split s' told e =
    let one : Open = Way.first Question ∷ os in
    let w : Bool = some_whole (read_lines (inside d cs n os)) in
    let f = (cond_some (nat_lt (length os) 999) (inside d cs n one) s' e).1 in
    let P : State → Type 0 = IsEditionOf (w || false) in
    subst P f (told ∙ sym (or_false w))
next_edition (inside d cs n os) (whole x m) s' told e =
    let one : Open = Way.first (Whole x m) ∷ os in
    let w : Bool = some_whole (read_lines (inside d cs n os)) in
    let f = (cond_some (may_split d && nat_lt (length os) 999) (inside Two cs n one) s' e).1 in
    let P : State → Type 0 = IsEditionOf (w || true) in
    subst P f (sym (or_true w))
next_edition (inside d cs n os) (farkas ms) s' told e =
    let w : Bool = some_whole (read_lines (inside d cs n os)) in
    let f : filled_state d cs n (fill os (Tree.farkas ms)) ≡ s' = cc in
    let P : State → Type 0 = IsEditionOf (w || false) in
    subst P f (filled_edition d cs n (fill os (Tree.farkas ms)) (w || false) (told ∙ sym (or_false w)))
next_edition (inside d cs n os) plain s' told e =
    let w : Bool = some_whole (read_lines (inside d cs n os)) in
    let f : filled_state d cs n (fill os Tree.plain) ≡ s' = cc in
    let P : State → Type 0 = IsEditionOf (w || false) in
    subst P f (filled_edition d cs n (fill os Tree.plain) (w || false) (told ∙ sym (or_false w)))
next_edition s l s' told e = absurd (cc)

next-told : (s : State) (l : Line) (s' : State) → IsTold s → next s l ≡ Some s' → IsTold s'
next-told s l s' told e =
    told_from_edition s' (some_whole (read_lines s) || splits_whole l) (next_edition s l s' told e)
    (sym (some_whole_push (read_lines s) l) ∙ ap some_whole (sym (next-lines s l s' told e)))

-- Each state continues to the end of a list that has a text.

abbrev pub IsNode : Node → Type 0
IsNode Question = Unit {0}
IsNode (Whole x m) = IsWholeSplit x m

-- The certificates of an open tree stay within the depth limit.
abbrev pub IsOpen : Open → Type 0
IsOpen [] = Unit {0}
IsOpen (Way.first k ∷ os) = (length os + 2 ≤ 1000) × IsNode k × IsOpen os
IsOpen (Way.second k y ∷ os) = (depth y + length os + 1 ≤ 1000) × IsNode k × HasNumbers y × IsOpen os

abbrev pub IsSound : State → Type 0
IsSound start = Unit {0}
IsSound (between e cs latest) = AreWritable cs × (latest ≡ latest_of None cs)
IsSound (inside e cs n os) = AreWritable cs × IsTrue (may_follow (latest_of None cs) n) × IsNumbered n × IsOpen os
IsSound (done cs) = AreWritable cs

latest_of_push : (latest : Option GoalName) (cs : List Certificate) (c : Certificate) → Some c.name ≡ latest_of latest (cs ++ c ∷ [])
latest_of_push latest [] c = refl
latest_of_push latest (d ∷ cs) c = latest_of_push (Some d.name) cs c

growing_push : (latest : Option GoalName) (cs : List Certificate) (c : Certificate) → IsGrowingAfter latest cs → IsTrue (may_follow (latest_of latest cs) c.name) → IsGrowingAfter latest (cs ++ c ∷ [])
growing_push latest [] c g f = (f, tt)
growing_push latest (d ∷ cs) c g f = (g.0, growing_push (Some d.name) cs c g.1 f)

each_push : (cs : List Certificate) (c : Certificate) → AllByRecursion IsWritable cs → IsWritable c → AllByRecursion IsWritable (cs ++ c ∷ [])
each_push [] c each w = (w, tt)
each_push (d ∷ cs) c each w = (each.0, each_push cs c each.1 w)

pub writable_push : (cs : List Certificate) (c : Certificate) → AreWritable cs → IsTrue (may_follow (latest_of None cs) c.name) → IsWritable c → AreWritable (cs ++ c ∷ [])
writable_push cs c w f one = record { growing = growing_push None cs c w.growing f; each = each_push cs c w.each one }

abbrev pub IsFilled : Filled → Type 0
IsFilled (complete t) = HasNumbers t × (depth t ≤ 1000)
IsFilled (part os) = IsOpen os

joined_depth : (k : Node) (t u : Tree) → depth (joined k t u) ≡ depth (Tree.split t u)
joined_depth Question t u = refl
joined_depth (Whole x m) t u = refl

joined_numbers : (k : Node) (t u : Tree) → IsNode k → HasNumbers t → HasNumbers u → HasNumbers (joined k t u)
joined_numbers Question t u i h j = (h, j)
joined_numbers (Whole x m) t u i h j = (i, h, j)

pub fill-open : (os : Open) (t : Tree) → IsOpen os → HasNumbers t → depth t + length os ≤ 1000 → IsFilled (fill os t)
fill-open [] t o h room = let none : Open = [] in let z : length none ≡ 0 = refl in (h, omega arith)
fill-open (Way.first k ∷ os) t o h room = let one : Open = Way.first k ∷ os in let z : length one ≡ length os + 1 = omega arith in (omega arith, o.1, h, o.2)
fill-open (Way.second k y ∷ os) t o h room =
    let one : Open = Way.second k y ∷ os in
    let z : length one ≡ length os + 1 = omega arith in
    let d = o.0 in
    let j = joined_depth k y t in
    let room' : depth (joined k y t) + length os ≤ 1000 = omega arith in
    fill-open os (joined k y t) o.3 (joined_numbers k y t o.1 o.2 h) room'

leaf_fits : (os : Open) → IsOpen os → 1 + length os ≤ 1000
leaf_fits [] o = let none : Open = [] in let z : length none ≡ 0 = refl in omega arith
leaf_fits (Way.first k ∷ os) o = let one : Open = Way.first k ∷ os in let z : length one ≡ length os + 1 = omega arith in let d = o.0 in omega arith
leaf_fits (Way.second k y ∷ os) o = let one : Open = Way.second k y ∷ os in let z : length one ≡ length os + 1 = omega arith in let d = o.0 in let p = depth_positive y in omega arith

filled_sound : (e : Edition) (cs : List Certificate) (n : GoalName) (f : Filled) → AreWritable cs → IsTrue (may_follow (latest_of None cs) n) → IsNumbered n → IsFilled f → IsSound (filled_state e cs n f)
filled_sound e cs n (complete t) w g m f = let c : Certificate = record { name = n; tree = t } in (writable_push cs c w g (record { name = m; numbers = f.0; depth = f.1 }), latest_of_push None cs c)
filled_sound e cs n (part os) w g m f = (w, g, m, f)

one_more : (os : Open) (k : Node) → nat_lt (length os) 999 ≡ true → IsNode k → IsOpen os → IsOpen (Way.first k ∷ os)
one_more os k less i o = let room : length os + 2 ≤ 1000 = grind arith in (room, i, o)

pub next-sound : (s : State) (l : Line) (s' : State) → IsSound s → IsLine l → next s l ≡ Some s' → IsSound s'
next-sound start (title v) s' sound ok e =
    let none : List Certificate = [] in
    let f : between (edition_of v) none None ≡ s' = cc in
    let P : State → Type 0 = IsSound in
    subst P f (record { growing = tt; each = tt }, refl)
next-sound (between d cs latest) (goal n) s' sound ok e =
    let none : Open = [] in
    let f = cond_some (may_follow latest n) (inside d cs n none) s' e in
    let P : State → Type 0 = IsSound in
    let Q : Option GoalName → Type 0 = λ o. IsTrue (may_follow o n) in
    subst P f.1 (sound.0, subst Q sound.1 f.0, ok, tt)
next-sound (between d cs latest) last s' sound ok e =
    let f = cond_some (may_end d) (done cs) s' e in
    let P : State → Type 0 = IsSound in
    subst P f.1 sound.0
next-sound (inside d cs n os) split s' sound ok e =
    let one : Open = Way.first Question ∷ os in
    let f = cond_some (nat_lt (length os) 999) (inside d cs n one) s' e in
    let P : State → Type 0 = IsSound in
    subst P f.1 (sound.0, sound.1, sound.2, one_more os Question f.0 tt sound.3)
next-sound (inside d cs n os) (whole x m) s' sound ok e =
    let one : Open = Way.first (Whole x m) ∷ os in
    let f = cond_some (may_split d && nat_lt (length os) 999) (inside Two cs n one) s' e in
    let P : State → Type 0 = IsSound in
    subst P f.1 (sound.0, sound.1, sound.2, one_more os (Whole x m) (and_both (may_split d) (nat_lt (length os) 999) f.0).1 ok sound.3)
next-sound (inside d cs n os) (farkas ms) s' sound ok e =
    let f : filled_state d cs n (fill os (Tree.farkas ms)) ≡ s' = cc in
    let P : State → Type 0 = IsSound in
    subst P f (filled_sound d cs n (fill os (Tree.farkas ms)) sound.0 sound.1 sound.2 (fill-open os (Tree.farkas ms) sound.3 ok (leaf_fits os sound.3)))
next-sound (inside d cs n os) plain s' sound ok e =
    let f : filled_state d cs n (fill os Tree.plain) ≡ s' = cc in
    let P : State → Type 0 = IsSound in
    subst P f (filled_sound d cs n (fill os Tree.plain) sound.0 sound.1 sound.2 (fill-open os Tree.plain sound.3 tt (leaf_fits os sound.3)))
next-sound s l s' sound ok e = absurd (cc)

-- The properties of a state that lines lead to.
pub record IsReached (s : State) (before ls : List Line) : Type 0 where
  pub lines : read_lines s ≡ before ++ ls
  pub sound : IsSound s
  pub told : IsTold s

reached_by : (ls : List Line) (o : Option State) (s : State) (before : List Line) → AllByRecursion IsLine ls → run ls o ≡ Some s
    → ((s' : State) → o ≡ Some s' → IsReached s' before []) → IsReached s before ls
reached_by [] o s before ok e start' = start' s e
reached_by (l ∷ ls) None s before ok e start' = let f = run-None ls in absurd (cc)
reached_by (l ∷ ls) (Some r) s before ok e start' =
    let here = start' r refl in
    let there : (s' : State) → next r l ≡ Some s' → IsReached s' (before ++ l ∷ []) [] = λ s' f. record {
      lines = next-lines r l s' here.told f ∙ ap (λ (ks : List Line). ks ++ l ∷ []) (here.lines ∙ append-nil before) ∙ sym (append-nil (before ++ l ∷ []));
      sound = next-sound r l s' here.sound ok.0 f;
      told = next-told r l s' here.told f;
    } in
    let rest = reached_by ls (next r l) s (before ++ l ∷ []) ok.1 e there in
    record { lines = rest.lines ∙ append_assoc before (l ∷ []) ls; sound = rest.sound; told = rest.told }

pub reached : (ls : List Line) (s : State) → AllByRecursion IsLine ls → run ls (Some start) ≡ Some s → IsReached s [] ls
reached ls s ok e = reached_by ls (Some start) s [] ok e (λ s' f. let g : start ≡ s' = cc in let P : State → Type 0 = λ s''. IsReached s'' [] [] in subst P g (record { lines = refl; sound = tt; told = tt }))

-- Each state continues to an end, or to a place before the end of a text of version 2.

-- A state after a filled open place continues.
abbrev GoesOn : Edition → State → Type 0
GoesOn e s = (more : List Line) × (cs : List Certificate) × (latest : Option GoalName) × AllByRecursion IsLine more × (run more (Some s) ≡ Some (between e cs latest))

goes_on_filled : (os : Open) (t : Tree) (e : Edition) (cs : List Certificate) (n : GoalName) → GoesOn e (filled_state e cs n (fill os t))
goes_on_filled [] t e cs n = ([], cs ++ (record { name = n; tree = t }) ∷ [], Some n, tt, refl)
goes_on_filled (Way.first k ∷ os) t e cs n = let g = goes_on_filled os (joined k t Tree.plain) e cs n in (plain ∷ g.0, g.1, g.2, (tt, g.3), g.4)
goes_on_filled (Way.second k y ∷ os) t e cs n = goes_on_filled os (joined k y t) e cs n

AllByRecursion-append : {X : Type 0} (P : X → Type 0) (xs ys : List X) → AllByRecursion P xs → AllByRecursion P ys → AllByRecursion P (xs ++ ys)
AllByRecursion-append P [] ys a b = b
AllByRecursion-append P (x ∷ xs) ys a b = (a.0, AllByRecursion-append P xs ys a.1 b)

pub whole_list : (ls : List Line) (cs : List Certificate) → AllByRecursion IsLine ls → run ls (Some start) ≡ Some (done cs) → AreWritable cs × (certificate_lines cs ≡ ls)
whole_list ls cs ok e = let r = reached ls (done cs) ok e in (r.sound, r.lines)

-- The lines are the first ones of a list, or those of a text of version 2 before its end.
pub data AreBegun (ls : List Line) : Type 0 where
  of_list : (cs : List Certificate) (more : List Line) → AreWritable cs → certificate_lines cs ≡ ls ++ more → AreBegun ls
  of_front : (cs : List Certificate) (more : List Line) → AreWritable cs → title versions.Two ∷ goals_lines cs ≡ ls ++ more → AreBegun ls

begun_by : (ls more : List Line) (cs : List Certificate) → AllByRecursion IsLine ls → AllByRecursion IsLine more → run (ls ++ more) (Some start) ≡ Some (done cs) → AreBegun ls
begun_by ls more cs ok also e = let w = whole_list (ls ++ more) cs (AllByRecursion-append IsLine ls more ok also) e in AreBegun.of_list cs more w.0 w.1

begun_between : (ls more : List Line) (e : Edition) (cs : List Certificate) (latest : Option GoalName) → AllByRecursion IsLine ls → AllByRecursion IsLine more
    → run (ls ++ more) (Some start) ≡ Some (between e cs latest) → AreBegun ls
begun_between ls more One cs latest ok also e =
    let one : List Line = last ∷ [] in
    begun_by ls (more ++ one) cs ok (AllByRecursion-append IsLine more one also (tt, tt))
    (ap (λ (ks : List Line). run ks (Some start)) (sym (append_assoc ls more one)) ∙ run-append (ls ++ more) one (Some start) ∙ ap (λ (o : Option State). run one o) e)
begun_between ls more Lacking cs latest ok also e = let r = reached (ls ++ more) (between Lacking cs latest) (AllByRecursion-append IsLine ls more ok also) e in AreBegun.of_front cs more r.sound.0 r.lines
begun_between ls more Two cs latest ok also e = let r = reached (ls ++ more) (between Two cs latest) (AllByRecursion-append IsLine ls more ok also) e in AreBegun.of_front cs more r.sound.0 r.lines

pub first_lines : (ls : List Line) (s : State) → AllByRecursion IsLine ls → run ls (Some start) ≡ Some s → AreBegun ls
first_lines ls start ok e =
    let none : List Certificate = [] in
    begun_by ls (title versions.One ∷ last ∷ []) none ok (tt, (tt, tt)) (run-append ls (title versions.One ∷ last ∷ []) (Some start) ∙ ap (λ (o : Option State). run (title versions.One ∷ last ∷ []) o) e)
first_lines ls (between d cs latest) ok e = begun_between ls [] d cs latest ok tt (ap (λ (ks : List Line). run ks (Some start)) (append-nil ls) ∙ e)
first_lines ls (inside d cs n os) ok e =
    let g = goes_on_filled os Tree.plain d cs n in
    begun_between ls (plain ∷ g.0) d g.1 g.2 ok (tt, g.3) (run-append ls (plain ∷ g.0) (Some start) ∙ ap (λ (o : Option State). run (plain ∷ g.0) o) e ∙ g.4)
first_lines ls (done cs) ok e = begun_by ls [] cs ok tt (ap (λ (ks : List Line). run ks (Some start)) (append-nil ls) ∙ e)

pub no_state : (ls : List Line) (s : State) (l : Line) (more ks : List Line) (t : State) → run ls (Some start) ≡ Some s → next s l ≡ None
    → run ks (Some start) ≡ Some t → ks ≡ ls ++ l ∷ more → ⊥
no_state ls s l more ks t e n g f =
    let h : run (ls ++ l ∷ more) (Some start) ≡ Some t = ap (λ (js : List Line). run js (Some start)) (sym f) ∙ g in
    let k : run (ls ++ l ∷ more) (Some start) ≡ None = run-append ls (l ∷ more) (Some start) ∙ ap (λ (o : Option State). run (l ∷ more) o) e ∙ ap (λ (o : Option State). run more o) n ∙ run-None more in
    let z : None ≡ Some t = sym k ∙ h in absurd (cc)

pub end_of : (ls : List Line) (s : State) (cs : List Certificate) → run ls (Some start) ≡ Some s → AreWritable cs → certificate_lines cs ≡ ls → s ≡ done cs
end_of ls s cs e w f =
    let g : Some s ≡ Some (done cs) = sym e ∙ ap (λ (ks : List Line). run ks (Some start)) (sym f) ∙ run-certificate_lines cs w in cc
