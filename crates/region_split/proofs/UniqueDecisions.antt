-- A goal has one decision, except for the multipliers of its tree and the limits.
use Rattle.std.proofs.Common.{◌≡◌, ℕ, List, [], ◌∷◌, ◌++◌, length, refl, sym, ap, ap₂, ◌∙◌, subst, arith, length-append, true}
use Rattle.std.specs.Prelude.{Option, Some, None}
use Rattle.std.specs.List.{All}
use Rattle.std.proofs.lemmas.List.Elements.{All-cons}
use Rattle.heyvl_num.specs.Rational.{Rational}
use Rattle.heylo_formula.specs.Goals.{Goal}
use Rattle.heylo_formula.specs.declared.values.Val.{Val}
use Rattle.linear_form.specs.Query.{Taken}
use Rattle.linear_form.specs.Nonlinear.{nonlinear_product}
use Rattle.linear_form.specs.PathRows.{IsPlainAt}
use Rattle.linear_form.specs.Cells.{IsCell}
use Rattle.linear_rows.specs.GreedyPoint.{Interval, Greedy, ChoosesFrom}
use Rattle.linear_rows.proofs.exported.GreedyChoices.{choices_unique}
use Rattle.linear_elim.specs.Answers.{ends_of, values_of}
use Rattle.goal_answers.specs.declared.causes.Broken.{Broken}
use Rattle.goal_answers.specs.declared.causes.Cause.{Cause}
use Rattle.goal_answers.specs.declared.causes.Cause.TheVariants.{Depth, Nodes, Nonlinear, Cells, Rows, Bits, Fraction}
use Rattle.goal_answers.specs.Trees.{Tree, tree_of}
use Rattle.goal_answers.specs.declared.trees.Tree as T
use Rattle.region_split.specs.Walk.{AreCells, IsWalked}
use Rattle.region_split.specs.WalkTree.{IsWalkTree}
use Rattle.region_split.specs.Decisions.{HasCells, IsFirstPoint, IsFirstBreak, IsFalsified, IsUndecided, IsGiven, IsProved, IsCause, IsDecision}
use Rattle.region_split.specs.PathPoints.{Breaks, IsBreakOf}
use Rattle.region_split.specs.Pieces.{AreEnds, EndsOf, HasFirstPoint}
use Rattle.region_split.specs.internal.Progress.{HoldsAt}
use Rattle.region_split.specs.DecisionLaws.{AreAlike, IsSameBreak, GiveAlike, IsOfLimits, IsSameCause, DecisionsAreUnique}
use Rattle.goal_answers.specs.declared.decisions.Decision.TheVariants.{Proved, Falsified, Unknown}
use Rattle.region_split.proofs.PathAnswers.{same_rows}
use Rattle.region_split.proofs.CellsFound.{breaks, no_ends}
use Rattle.region_split.proofs.WalkMoves.{all_first, all_second, at_place}
use Rattle.region_split.proofs.Leaves.{point_or_holds}
use Rattle.region_split.proofs.UniqueEnds.{the_end, ends_unique, point_false, point_not_broken, point_unique}
use Rattle.region_split.proofs.UniqueWalks.{cells_unique, trees_alike, alike_depth, all_hold, kept_or_dropped, end_or_question, located}

-- ---- Two places in a list

-- Two places in a list: equal, or one before the other.
data Places {A : Type 0} : List A → A → List A → List A → A → List A → Type 0 where
  same : (es : List A) (a : A) (bs : List A) → Places es a bs es a bs
  left : (es bs : List A) (a c : A) (cs : List A) → Places es a (bs ++ (c ∷ cs)) (es ++ (a ∷ bs)) c cs
  right : (es bs : List A) (a c : A) (cs : List A) → Places (es ++ (a ∷ bs)) c cs es a (bs ++ (c ∷ cs))

more_places : {A : Type 0} (x : A) (es : List A) (a : A) (bs cs : List A) (c : A) (ds : List A) → Places es a bs cs c ds → Places (x ∷ es) a bs (x ∷ cs) c ds
more_places x _ _ _ _ _ _ (Places.same es a bs) = Places.same (x ∷ es) a bs
more_places x _ _ _ _ _ _ (Places.left es bs a c cs) = Places.left (x ∷ es) bs a c cs
more_places x _ _ _ _ _ _ (Places.right es bs a c cs) = Places.right (x ∷ es) bs a c cs

places : {A : Type 0} (es : List A) (a : A) (bs cs : List A) (c : A) (ds : List A) → es ++ (a ∷ bs) ≡ cs ++ (c ∷ ds) → Places es a bs cs c ds
places [] a bs [] c ds e = let k : a ≡ c = cc in let m : bs ≡ ds = cc in subst (λ z. Places [] a bs [] z ds) k (subst (λ z. Places [] a bs [] a z) m (Places.same [] a bs))
places [] a bs (x ∷ cs) c ds e = let f : a ∷ bs ≡ x ∷ (cs ++ (c ∷ ds)) = e in let k : a ≡ x = cc in let m : cs ++ (c ∷ ds) ≡ bs = cc in subst (λ z. Places [] a bs (z ∷ cs) c ds) k (subst (λ z. Places [] a z (a ∷ cs) c ds) m (Places.left [] cs a c ds))
places (x ∷ es) a bs [] c ds e = let f : x ∷ (es ++ (a ∷ bs)) ≡ c ∷ ds = e in let k : c ≡ x = cc in let m : es ++ (a ∷ bs) ≡ ds = cc in subst (λ z. Places (z ∷ es) a bs [] c ds) k (subst (λ z. Places (c ∷ es) a bs [] c z) m (Places.right [] es c a bs))
places (x ∷ es) a bs (y ∷ cs) c ds e = let f : x ∷ (es ++ (a ∷ bs)) ≡ y ∷ (cs ++ (c ∷ ds)) = e in let k : x ≡ y = cc in let m : es ++ (a ∷ bs) ≡ cs ++ (c ∷ ds) = cc in subst (λ z. Places (x ∷ es) a bs (z ∷ cs) c ds) k (more_places x es a bs cs c ds (places es a bs cs c ds m))

-- ---- The point and the break are unique

broken_parts : (b c : Broken) (ds es : List (ℕ × Rational)) → Greedy.broke b.var ds (ends_of b) ≡ Greedy.broke c.var es (ends_of c) → b.earlier.items ≡ values_of ds → c.earlier.items ≡ values_of es → IsSameBreak b c
broken_parts b c ds es e h k =
    let v : b.var ≡ c.var = cc in
    let d : ds ≡ es = cc in
    let i : ends_of b ≡ ends_of c = cc in
    record {
      var = v;
      earlier = h ∙ ap values_of d ∙ sym k;
      low = ap (λ (j : Interval). (the_end j.low).place) i;
      low_in = ap (λ (j : Interval). (the_end j.low).inside) i;
      high = ap (λ (j : Interval). (the_end j.high).place) i;
      high_in = ap (λ (j : Interval). (the_end j.high).inside) i;
    }

same_break : (g : Goal) (ps : List Taken) (b c : Broken) → IsBreakOf g ps b → IsBreakOf g ps c → IsSameBreak b c
same_break g ps b c p q =
    let e = same_rows g ps true q.rows p.rows q.are_rows p.are_rows in
    broken_parts b c p.broken.chosen q.broken.chosen (choices_unique p.rows g.types _ _ p.broken.solvable p.broken.choice (subst (λ rs. ChoosesFrom rs g.types (Greedy.broke c.var q.broken.chosen (ends_of c))) e q.broken.choice)) p.broken.earlier q.broken.earlier

-- The ends of cells at one of them.
data EndsAt (g : Goal) (c : List Taken) (es : List (List Taken)) : Type 0 where
  plain : IsPlainAt g c → EndsAt g c es
  ends : (cs : List (List Taken)) → AreEnds g 0 c cs → (All (Breaks g) es → All (Breaks g) cs) → EndsAt g c es

ends_at : (g : Goal) (before : List (List Taken)) (c : List Taken) (after es : List (List Taken)) → EndsOf g (before ++ (c ∷ after)) es → EndsAt g c es
ends_at g [] c after _ (EndsOf.plain _ cells es p h) = EndsAt.plain p
ends_at g [] c after _ (EndsOf.pieces _ cells cs es a h) = EndsAt.ends cs a (λ k. all_first (Breaks g) cs es k)
ends_at g (b ∷ before) c after _ (EndsOf.plain _ cells es p h) = ends_at g before c after es h
ends_at g (b ∷ before) c after _ (EndsOf.pieces _ cells cs es a h) = go (ends_at g before c after es h)
  where
    go : EndsAt g c es → EndsAt g c (cs ++ es)
    go (EndsAt.plain p) = EndsAt.plain p
    go (EndsAt.ends ds d k) = EndsAt.ends ds d (λ m. k (all_second (Breaks g) cs es m))

broken_or_given : (g : Goal) (before : List (List Taken)) (c : List Taken) (after es : List (List Taken)) (p : List Val) → EndsOf g (before ++ (c ∷ after)) es → All (Breaks g) es → HasFirstPoint g 0 c p → ⊥
broken_or_given g before c after es p h b a = go (ends_at g before c after es h)
  where
    go : EndsAt g c es → ⊥
    go (EndsAt.plain k) = (point_false g 0 c p a).not_plain k
    go (EndsAt.ends cs d k) = point_not_broken g 0 c p cs a d (k b)

one_point : (g : Goal) (cells : List (List Taken)) (p q : List Val) → IsFirstPoint g cells p → IsFirstPoint g cells q → p ≡ q
one_point g cells p q a b = go (places a.before a.cell a.after b.before b.cell b.after (a.whole ∙ sym b.whole)) a.are_ends b.are_ends a.gives b.gives
  where
    go : {es bs cs ds : List (List Taken)} {c d : List Taken} → Places es c bs cs d ds → EndsOf g es a.ends → EndsOf g cs b.ends → HasFirstPoint g 0 c p → HasFirstPoint g 0 d q → p ≡ q
    go (Places.same es c bs) h k x y = point_unique g 0 c p q x y
    go (Places.left es bs c d ds) h k x y = absurd (broken_or_given g es c bs b.ends p k b.broken x)
    go (Places.right es bs d c ds) h k x y = absurd (broken_or_given g es d bs a.ends q h a.broken y)

plain_ends : (g : Goal) (ps : List Taken) (es : List (List Taken)) → IsPlainAt g ps → AreEnds g 0 ps es → es ≡ []
plain_ends g _ _ p (AreEnds.refuted n ps r) = refl
plain_ends g _ _ p (AreEnds.whole n ps q f a) = absurd (f.not_plain p)
plain_ends g _ _ p (AreEnds.deepest n ps l f b) = absurd (f.not_plain p)
plain_ends g _ _ p (AreEnds.halves n ps x m cs ds s a b) = absurd (s.false_piece.not_plain p)

all_ends_unique : (g : Goal) (cells es fs : List (List Taken)) → EndsOf g cells es → EndsOf g cells fs → es ≡ fs
all_ends_unique g _ _ _ EndsOf.start EndsOf.start = refl
all_ends_unique g _ _ _ (EndsOf.plain ps cells es p h) (EndsOf.plain _ _ fs q k) = all_ends_unique g cells es fs h k
all_ends_unique g _ _ _ (EndsOf.plain ps cells es p h) (EndsOf.pieces _ _ cs fs a k) = all_ends_unique g cells es fs h k ∙ ap (λ ds. ds ++ fs) (sym (plain_ends g ps cs p a))
all_ends_unique g _ _ _ (EndsOf.pieces ps cells cs es a h) (EndsOf.plain _ _ fs q k) = ap (λ ds. ds ++ es) (plain_ends g ps cs q a) ∙ all_ends_unique g cells es fs h k
all_ends_unique g _ _ _ (EndsOf.pieces ps cells cs es a h) (EndsOf.pieces _ _ ds fs b k) = ap₂ (λ u v. u ++ v) (ends_unique g 0 ps cs ds a b) (all_ends_unique g cells es fs h k)

one_break : (g : Goal) (cells : List (List Taken)) (p q : Broken) → IsFirstBreak g cells p → IsFirstBreak g cells q → IsSameBreak p q
one_break g cells p q a b =
    let e = all_ends_unique g cells (a.path ∷ a.after) (b.path ∷ b.after) a.are_ends b.are_ends in
    let k : b.path ≡ a.path = cc in
    same_break g a.path p q a.breaks_here (subst (λ ps. IsBreakOf g ps q) k b.breaks_here)

point_and_break : (g : Goal) (cells : List (List Taken)) (p : List Val) (b : Broken) → IsFirstPoint g cells p → IsFirstBreak g cells b → ⊥
point_and_break g cells p b a c = broken_or_given g a.before a.cell a.after (c.path ∷ c.after) p (subst (λ cs. EndsOf g cs (c.path ∷ c.after)) (sym a.whole) c.are_ends) (All-cons (Breaks g) c.path c.after (breaks g c.path b c.breaks_here) c.broken_after) a.gives

-- ---- All cells

same_cells : (g : Goal) (cs ds : List (List Taken)) → IsWalked g cs → IsWalked g ds → cs ≡ ds
same_cells g cs ds a b = cells_unique g [] cs ds a.are_cells b.are_cells

proved_and_point : (g : Goal) (t : Option T.Tree) (p : List Val) → IsProved g t → IsFalsified g p → ⊥
proved_and_point g t p a b = point_or_holds g b.first.cell p b.first.gives (at_place (HoldsAt g) b.first.before b.first.cell b.first.after (subst (All (HoldsAt g)) (sym b.first.whole) (all_hold g [] a.tree b.cells a.is_tree b.walked.are_cells)))

pub tree_or_break : (g : Goal) (t : Tree) (c : Broken) → IsWalkTree g [] t → IsUndecided g c → ⊥
tree_or_break g t c a b = let e = all_ends_unique g b.cells [] (b.first.path ∷ b.first.after) (no_ends g b.cells (all_hold g [] t b.cells a b.walked.are_cells)) b.first.are_ends in absurd (cc)

cell_count : (g : Goal) (ps : List Taken) (cells : List (List Taken)) → IsCell g ps → AreCells g ps cells → length cells ≡ 1
cell_count g _ _ c (AreCells.dropped ps d s) = absurd (kept_or_dropped g ps c.kept d)
cell_count g _ _ c (AreCells.end ps e k h s) = refl
cell_count g _ _ c (AreCells.question ps q cs ds h a b) = absurd (end_or_question g ps c.ends q c.at_end h.asks)

pub cells_or_walked : (g : Goal) (all : List (List Taken)) → HasCells g 4097 → IsWalked g all → ⊥
cells_or_walked g all h w =
    let l = located g h.path h.before all h.are_before w.are_cells in
    let n = cell_count g h.path l.here h.cell l.are_cells in
    let a = ap length l.whole ∙ length-append h.before (l.here ++ l.behind) in
    let b = length-append l.here l.behind in
    let c = h.counted in
    let f = w.few in
    absurd (omega (arith, n, a, b, c, f))

pub cells_counted : (g : Goal) (n : ℕ) → (n ≡ 4097) × HasCells g n → HasCells g 4097
cells_counted g n h = subst (HasCells g) h.0 h.1

given_alike : (t u : Tree) (s r : Option T.Tree) → AreAlike t u → IsGiven t s → IsGiven u r → GiveAlike s r
given_alike t u (Some s) (Some r) a h k = subst (λ z. AreAlike z (tree_of r)) (sym h.0) (subst (AreAlike t) (sym k.0) a)
given_alike t u (Some s) None a h k = let d = alike_depth t u a in let m = h.1 in absurd (omega (arith, d, m, k))
given_alike t u None (Some r) a h k = let d = alike_depth t u a in let m = k.1 in absurd (omega (arith, d, m, h))
given_alike t u None None a h k = tt

-- ---- Decisions

same_cause : (g : Goal) (c d : Cause) → IsCause g c → IsCause g d → (IsOfLimits (Unknown c) → ⊥) → (IsOfLimits (Unknown d) → ⊥) → IsSameCause c d
same_cause g Depth d h k m n = absurd h
same_cause g Nodes d h k m n = absurd h
same_cause g (Rows a b) d h k m n = absurd (m tt)
same_cause g Bits d h k m n = absurd (m tt)
same_cause g (Nonlinear s) Depth h k m n = absurd k
same_cause g (Nonlinear s) Nodes h k m n = absurd k
same_cause g (Nonlinear s) (Rows a b) h k m n = absurd (n tt)
same_cause g (Nonlinear s) Bits h k m n = absurd (n tt)
same_cause g (Nonlinear s) (Nonlinear r) h k m n = let e = sym h ∙ k in cc
same_cause g (Nonlinear s) (Cells a) h k m n = let e = sym h ∙ k.0 in absurd (cc)
same_cause g (Nonlinear s) (Fraction b) h k m n = let e = sym h ∙ k.0 in absurd (cc)
same_cause g (Cells a) Depth h k m n = absurd k
same_cause g (Cells a) Nodes h k m n = absurd k
same_cause g (Cells a) (Rows b c) h k m n = absurd (n tt)
same_cause g (Cells a) Bits h k m n = absurd (n tt)
same_cause g (Cells a) (Nonlinear r) h k m n = let e = sym k ∙ h.0 in absurd (cc)
same_cause g (Cells a) (Cells b) h k m n = h.1.0 ∙ sym k.1.0
same_cause g (Cells a) (Fraction b) h k m n = absurd (cells_or_walked g k.1.cells (cells_counted g a h.1) k.1.walked)
same_cause g (Fraction b) Depth h k m n = absurd k
same_cause g (Fraction b) Nodes h k m n = absurd k
same_cause g (Fraction b) (Rows a c) h k m n = absurd (n tt)
same_cause g (Fraction b) Bits h k m n = absurd (n tt)
same_cause g (Fraction b) (Nonlinear r) h k m n = let e = sym k ∙ h.0 in absurd (cc)
same_cause g (Fraction b) (Cells a) h k m n = absurd (cells_or_walked g h.1.cells (cells_counted g a k.1) h.1.walked)
same_cause g (Fraction b) (Fraction c) h k m n = one_break g h.1.cells b c h.1.first (subst (λ cs. IsFirstBreak g cs c) (same_cells g k.1.cells h.1.cells k.1.walked h.1.walked) k.1.first)

proved_or_cause : (g : Goal) (t : Option T.Tree) (c : Cause) → IsDecision g (Proved t) → IsCause g c → (IsOfLimits (Unknown c) → ⊥) → ⊥
proved_or_cause g t Depth h k n = absurd k
proved_or_cause g t Nodes h k n = absurd k
proved_or_cause g t (Rows a b) h k n = n tt
proved_or_cause g t Bits h k n = n tt
proved_or_cause g t (Nonlinear r) h k n = let e = sym k ∙ h.0 in absurd (cc)
proved_or_cause g t (Cells a) h k n = cells_or_walked g h.1.cells (cells_counted g a k.1) h.1.walked
proved_or_cause g t (Fraction b) h k n = tree_or_break g h.1.tree b h.1.is_tree k.1

pub falsified_or_cause : (g : Goal) (p : List Val) (c : Cause) → (nonlinear_product g ≡ None) × IsFalsified g p → IsCause g c → (IsOfLimits (Unknown c) → ⊥) → ⊥
falsified_or_cause g p Depth h k n = absurd k
falsified_or_cause g p Nodes h k n = absurd k
falsified_or_cause g p (Rows a b) h k n = n tt
falsified_or_cause g p Bits h k n = n tt
falsified_or_cause g p (Nonlinear r) h k n = let e = sym k ∙ h.0 in absurd (cc)
falsified_or_cause g p (Cells a) h k n = cells_or_walked g h.1.cells (cells_counted g a k.1) h.1.walked
falsified_or_cause g p (Fraction b) h k n = point_and_break g h.1.cells p b h.1.first (subst (λ cs. IsFirstBreak g cs b) (same_cells g k.1.cells h.1.cells k.1.walked h.1.walked) k.1.first)

pub decisions_unique : DecisionsAreUnique
decisions_unique g (Proved t) (Proved u) h k m n = given_alike h.1.tree k.1.tree t u (trees_alike g [] h.1.tree k.1.tree h.1.is_tree k.1.is_tree) h.1.is_given k.1.is_given
decisions_unique g (Proved t) (Falsified q) h k m n = absurd (proved_and_point g t q.items h.1 k.1)
decisions_unique g (Proved t) (Unknown c) h k m n = absurd (proved_or_cause g t c h k n)
decisions_unique g (Falsified p) (Proved u) h k m n = absurd (proved_and_point g u p.items k.1 h.1)
decisions_unique g (Falsified p) (Falsified q) h k m n = one_point g h.1.cells p.items q.items h.1.first (subst (λ cs. IsFirstPoint g cs q.items) (same_cells g k.1.cells h.1.cells k.1.walked h.1.walked) k.1.first)
decisions_unique g (Falsified p) (Unknown c) h k m n = absurd (falsified_or_cause g p.items c h k n)
decisions_unique g (Unknown c) (Proved u) h k m n = absurd (proved_or_cause g u c k h m)
decisions_unique g (Unknown c) (Falsified q) h k m n = absurd (falsified_or_cause g q.items c k h m)
decisions_unique g (Unknown c) (Unknown d) h k m n = same_cause g c d h k m n
