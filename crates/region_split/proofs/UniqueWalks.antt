-- Walks are unique: their cells, those before a front, and their tree except for the multipliers.
use Prim.Native.Nat.{suc}
use Rattle.std.proofs.Common.{◌≡◌, ℕ, ◌+◌, max, List, [], ◌++◌, refl, sym, ap, ap₂, ◌∙◌, subst, append_assoc, true, false, inl, inr}
use Rattle.std.specs.Prelude.{Option, None, Some, is_some}
use Rattle.std.proofs.lemmas.List.{append-nil}
use Rattle.std.specs.List.{All}
use Rattle.std.proofs.lemmas.List.Elements.{All-nil, All-cons, All-append}
use Rattle.heylo_formula.specs.Goals.{Goal}
use Rattle.linear_form.specs.Query.{Atom, Taken, onto}
use Rattle.linear_form.specs.Query.Query.{done}
use Rattle.linear_form.specs.Questions.{Ends}
use Rattle.linear_form.specs.Paths.{Asks, end_at}
use Rattle.linear_form.specs.PathRows.{IsPlainAt, denial, denial_at, rows_of}
use Rattle.linear_form.specs.Splits.{split_at}
use Rattle.linear_values.specs.Tightening.{Claim}
use Rattle.linear_rows.specs.Solutions.{IsSolvable}
use Rattle.linear_form.specs.Cells.{IsDropped, IsKeptPath, GoesOn}
use Rattle.linear_rows.proofs.exported.Combinations.{contradiction_unsolvable}
use Rattle.goal_answers.specs.Trees.{Tree, depth}
use Rattle.farkas_check.specs.AcceptedCertificates.{IsRefuted, has_denied}
use Rattle.region_split.specs.Walk.{AreBefore, AreCells, IsFalse}
use Rattle.region_split.specs.Pieces.{AreEnds, first_half, second_half}
use Rattle.region_split.specs.WalkTree.{IsPieceTree, IsWalkTree}
use Rattle.region_split.specs.internal.Progress.{HoldsAt}
use Rattle.region_split.proofs.HalvedPaths.{end_past, plain_before}
use Rattle.region_split.proofs.Leaves.{denied_there}
use Rattle.region_split.proofs.UniqueEnds.{at_same, same_split}
use Rattle.region_split.specs.DecisionLaws.{AreAlike, TreesAreAlike, DepthIsUnique, CellsAreUnique, CellsBeforeAreUnique}
use Rattle.region_split.proofs.PathAnswers.{same_rows}
use Rattle.region_split.proofs.WalkMoves.{taken, snoc_first, snoc_last, snoc_not_empty}

-- ---- The kind of a path is unique

pub kept_or_dropped : (g : Goal) (ps : List Taken) → IsKeptPath g ps → IsDropped g ps → ⊥
kept_or_dropped g ps k d = d.unsolvable (subst IsSolvable (same_rows g ps false k.rows d.rows k.are_rows d.are_rows) k.solvable)

pub end_or_question : (g : Goal) (ps : List Taken) (e : Ends) (q : Atom) → end_at g ps ≡ done e → Asks g ps q → ⊥
end_or_question g ps e q h a = let k = sym h ∙ a.question in absurd (cc)

one_question : (g : Goal) (ps : List Taken) (q r : Atom) → Asks g ps q → Asks g ps r → q ≡ r
one_question g ps q r a b = let k = sym a.question ∙ b.question in cc

plain_undenied : (g : Goal) (ps : List Taken) → IsPlainAt g ps → has_denied g ps ≡ false
plain_undenied g ps p = ap (λ t. is_some (denial_at g.upper t)) p.at_end ∙ ap is_some p.plain

plain_or_piece : (g : Goal) (n : ℕ) (ps : List Taken) (t : Tree) → IsKeptPath g ps → IsPlainAt g ps → IsPieceTree g n ps t → ⊥
plain_or_piece g _ _ _ k p (IsPieceTree.refuted n ps ms r) = contradiction_unsolvable ms r.rows r.contradiction (subst IsSolvable (same_rows g ps false k.rows r.rows k.are_rows (subst (λ b. rows_of g ps b ≡ Some r.rows) (plain_undenied g ps p) r.are_rows)) k.solvable)
plain_or_piece g _ _ _ k p (IsPieceTree.halves n ps x m t u s a b) = s.false_piece.not_plain p

-- ---- The cells

pub cells_unique : CellsAreUnique
cells_unique g _ _ _ (AreCells.dropped ps d s) (AreCells.dropped _ c t) = refl
cells_unique g _ _ _ (AreCells.dropped ps d s) (AreCells.end _ e k h t) = absurd (kept_or_dropped g ps k d)
cells_unique g _ _ _ (AreCells.dropped ps d s) (AreCells.question _ q cs ds h a b) = absurd (kept_or_dropped g ps h.kept d)
cells_unique g _ _ _ (AreCells.end ps e k h t) (AreCells.dropped _ d s) = absurd (kept_or_dropped g ps k d)
cells_unique g _ _ _ (AreCells.end ps e k h t) (AreCells.end _ f l i u) = refl
cells_unique g _ _ _ (AreCells.end ps e k h t) (AreCells.question _ q cs ds i a b) = absurd (end_or_question g ps e q h i.asks)
cells_unique g _ _ _ (AreCells.question ps q cs ds h a b) (AreCells.dropped _ d s) = absurd (kept_or_dropped g ps h.kept d)
cells_unique g _ _ _ (AreCells.question ps q cs ds h a b) (AreCells.end _ e k i t) = absurd (end_or_question g ps e q i h.asks)
cells_unique g _ _ _ (AreCells.question ps q cs ds h a b) (AreCells.question _ r es fs i c d) =
    let e : r ≡ q = one_question g ps r q i.asks h.asks in
    ap₂ (λ x y. x ++ y) (cells_unique g (onto ps q true) cs es a (subst (λ x. AreCells g (onto ps x true) es) e c)) (cells_unique g (onto ps q false) ds fs b (subst (λ x. AreCells g (onto ps x false) fs) e d))

before_same : (g : Goal) (ps rs : List Taken) (cs ds : List (List Taken)) → ps ≡ rs → AreBefore g ps cs → AreBefore g rs ds → cs ≡ ds
before_same g _ _ _ _ e AreBefore.start AreBefore.start = refl
before_same g _ _ _ _ e AreBefore.start (AreBefore.first ps q cs h b) = absurd (snoc_not_empty ps (taken q true) e)
before_same g _ _ _ _ e AreBefore.start (AreBefore.second ps q cs ds h b d) = absurd (snoc_not_empty ps (taken q false) e)
before_same g _ _ _ _ e (AreBefore.first ps q cs h b) AreBefore.start = absurd (snoc_not_empty ps (taken q true) (sym e))
before_same g _ _ _ _ e (AreBefore.first ps q cs h b) (AreBefore.first rs r ds k c) = before_same g ps rs cs ds (snoc_first ps rs (taken q true) (taken r true) e) b c
before_same g _ _ _ _ e (AreBefore.first ps q cs h b) (AreBefore.second rs r ds es k c d) = let n : true ≡ false = ap (λ p. p.held) (snoc_last ps rs (taken q true) (taken r false) e) in absurd (cc)
before_same g _ _ _ _ e (AreBefore.second ps q cs ds h b d) AreBefore.start = absurd (snoc_not_empty ps (taken q false) (sym e))
before_same g _ _ _ _ e (AreBefore.second ps q cs ds h b d) (AreBefore.first rs r es k c) = let n : false ≡ true = ap (λ p. p.held) (snoc_last ps rs (taken q false) (taken r true) e) in absurd (cc)
before_same g _ _ _ _ e (AreBefore.second ps q cs ds h b d) (AreBefore.second rs r es fs k c f) =
    let a : ps ≡ rs = snoc_first ps rs (taken q false) (taken r false) e in
    let o : q ≡ r = ap (λ p. p.atom) (snoc_last ps rs (taken q false) (taken r false) e) in
    ap₂ (λ x y. x ++ y) (before_same g ps rs cs es a b c) (cells_unique g (onto rs r true) ds fs (subst (λ x. AreCells g (onto rs x true) ds) o (subst (λ x. AreCells g (onto x q true) ds) a d)) f)

pub before_unique : CellsBeforeAreUnique
before_unique g ps cs ds a b = before_same g ps ps cs ds refl a b

-- ---- The tree

false_or_refuted_piece : (g : Goal) (ps : List Taken) (e : Ends) (ms : List (ℕ × ℕ)) → end_at g ps ≡ done e → IsFalse g ps → IsRefuted g ps ms → ⊥
false_or_refuted_piece g ps e ms h f r = contradiction_unsolvable ms r.rows r.contradiction (subst IsSolvable (same_rows g ps true f.rows r.rows f.are_rows (subst (λ b. rows_of g ps b ≡ Some r.rows) (denied_there g ps e h f.not_plain) r.are_rows)) f.solvable)

pieces_alike : (g : Goal) (n : ℕ) (ps : List Taken) (t u : Tree) (e : Ends) → end_at g ps ≡ done e → IsPieceTree g n ps t → IsPieceTree g n ps u → AreAlike t u
pieces_alike g _ _ _ _ e h (IsPieceTree.refuted n ps ms r) (IsPieceTree.refuted _ _ ns s) = AreAlike.farkas ms ns
pieces_alike g _ _ _ _ e h (IsPieceTree.refuted n ps ms r) (IsPieceTree.halves _ _ x m t u s a b) = absurd (false_or_refuted_piece g ps e ms h s.false_piece r)
pieces_alike g _ _ _ _ e h (IsPieceTree.halves n ps x m t u s a b) (IsPieceTree.refuted _ _ ms r) = absurd (false_or_refuted_piece g ps e ms h s.false_piece r)
pieces_alike g _ _ _ _ e h (IsPieceTree.halves n ps x m t u s a b) (IsPieceTree.halves _ _ y k v w i c d) =
    let o = same_split g n ps x y m k s i in
    subst (λ z. AreAlike (Tree.whole x m t u) (Tree.whole z k v w)) (sym o.var) (subst (λ z. AreAlike (Tree.whole x m t u) (Tree.whole x z v w)) (sym o.bound) (AreAlike.whole x m t u v w
    (pieces_alike g (suc n) (first_half ps x m) t v e (end_past g ps (split_at x m) true e h) a (at_same (λ qs. IsPieceTree g (suc n) qs v) (first_half ps) x y m k o c))
    (pieces_alike g (suc n) (second_half ps x m) u w e (end_past g ps (split_at x m) false e h) b (at_same (λ qs. IsPieceTree g (suc n) qs w) (second_half ps) x y m k o d))))

pub trees_alike : TreesAreAlike
trees_alike g _ _ _ (IsWalkTree.dropped ps ms d r) (IsWalkTree.dropped _ ns c s) = AreAlike.farkas ms ns
trees_alike g _ _ _ (IsWalkTree.dropped ps ms d r) (IsWalkTree.split _ q t u h a b) = absurd (kept_or_dropped g ps h.kept d)
trees_alike g _ _ _ (IsWalkTree.dropped ps ms d r) (IsWalkTree.pieces _ e t k h s) = absurd (kept_or_dropped g ps k d)
trees_alike g _ _ _ (IsWalkTree.dropped ps ms d r) (IsWalkTree.plain _ k p) = absurd (kept_or_dropped g ps k d)
trees_alike g _ _ _ (IsWalkTree.split ps q t u h a b) (IsWalkTree.dropped _ ms d r) = absurd (kept_or_dropped g ps h.kept d)
trees_alike g _ _ _ (IsWalkTree.split ps q t u h a b) (IsWalkTree.split _ r v w i c d) =
    let e : r ≡ q = one_question g ps r q i.asks h.asks in
    AreAlike.split t u v w (trees_alike g (onto ps q true) t v a (subst (λ x. IsWalkTree g (onto ps x true) v) e c)) (trees_alike g (onto ps q false) u w b (subst (λ x. IsWalkTree g (onto ps x false) w) e d))
trees_alike g _ _ _ (IsWalkTree.split ps q t u h a b) (IsWalkTree.pieces _ e v k i s) = absurd (end_or_question g ps e q i h.asks)
trees_alike g _ _ _ (IsWalkTree.split ps q t u h a b) (IsWalkTree.plain _ k p) = absurd (end_or_question g ps p.ends q p.at_end h.asks)
trees_alike g _ _ _ (IsWalkTree.pieces ps e v k h r) (IsWalkTree.dropped _ ns d s) = absurd (kept_or_dropped g ps k d)
trees_alike g _ _ _ (IsWalkTree.pieces ps e v k h r) (IsWalkTree.split _ q t u i a b) = absurd (end_or_question g ps e q h i.asks)
trees_alike g _ _ _ (IsWalkTree.pieces ps e v k h r) (IsWalkTree.pieces _ f w l i s) = pieces_alike g 0 ps v w e h r s
trees_alike g _ _ _ (IsWalkTree.pieces ps e v k h r) (IsWalkTree.plain _ l p) = absurd (plain_or_piece g 0 ps v k p r)
trees_alike g _ _ _ (IsWalkTree.plain ps k p) (IsWalkTree.dropped _ ms d r) = absurd (kept_or_dropped g ps k d)
trees_alike g _ _ _ (IsWalkTree.plain ps k p) (IsWalkTree.split _ q t u h a b) = absurd (end_or_question g ps p.ends q p.at_end h.asks)
trees_alike g _ _ _ (IsWalkTree.plain ps k p) (IsWalkTree.pieces _ e v l i r) = absurd (plain_or_piece g 0 ps v k p r)
trees_alike g _ _ _ (IsWalkTree.plain ps k p) (IsWalkTree.plain _ l r) = AreAlike.plain

pub alike_depth : (t u : Tree) → AreAlike t u → depth t ≡ depth u
alike_depth _ _ (AreAlike.split t u v w a b) = ap₂ (λ m n. 1 + max m n) (alike_depth t v a) (alike_depth u w b)
alike_depth _ _ (AreAlike.farkas ms ns) = refl
alike_depth _ _ AreAlike.plain = refl
alike_depth _ _ (AreAlike.whole x m t u v w a b) = ap₂ (λ m n. 1 + max m n) (alike_depth t v a) (alike_depth u w b)

pub depth_unique : DepthIsUnique
depth_unique g ps t u a b = alike_depth t u (trees_alike g ps t u a b)

-- ---- If there is a tree, the goal holds in each cell

piece_closed : (g : Goal) (n : ℕ) (ps : List Taken) (t : Tree) (e : Ends) → end_at g ps ≡ done e → (IsPlainAt g ps → ⊥) → IsPieceTree g n ps t → AreEnds g n ps []
piece_closed g _ _ _ e h k (IsPieceTree.refuted n ps ms r) = AreEnds.refuted n ps (record { rows = r.rows; are_rows = subst (λ b. rows_of g ps b ≡ Some r.rows) (denied_there g ps e h k) r.are_rows; unsolvable = contradiction_unsolvable ms r.rows r.contradiction })
piece_closed g _ _ _ e h k (IsPieceTree.halves n ps x m t u s a b) = AreEnds.halves n ps x m [] [] s
    (piece_closed g (suc n) (first_half ps x m) t e (end_past g ps (split_at x m) true e h) (λ p. k (plain_before g ps (split_at x m) true e h p)) a)
    (piece_closed g (suc n) (second_half ps x m) u e (end_past g ps (split_at x m) false e h) (λ p. k (plain_before g ps (split_at x m) false e h p)) b)

cell_holds : (g : Goal) (ps : List Taken) (t : Tree) (e : Ends) → end_at g ps ≡ done e → IsPieceTree g 0 ps t → HoldsAt g ps
cell_holds g ps t e h a = go (denial g.upper e) refl
  where
    go : (o : Option Claim) → denial g.upper e ≡ o → HoldsAt g ps
    go None k = inl (record { ends = e; at_end = h; plain = k })
    go (Some c) k = inr (piece_closed g 0 ps t e h (λ p. not_plain p.ends (sym h ∙ p.at_end) p.plain) a)
      where
        not_plain : (f : Ends) → done e ≡ done f → denial g.upper f ≡ None → ⊥
        not_plain f i j = let l : e ≡ f = cc in let m : denial g.upper e ≡ None = ap (denial g.upper) l ∙ j in absurd (cc)

pub all_hold : (g : Goal) (ps : List Taken) (t : Tree) (cs : List (List Taken)) → IsWalkTree g ps t → AreCells g ps cs → All (HoldsAt g) cs
all_hold g _ _ _ (IsWalkTree.dropped ps ms d r) (AreCells.dropped _ c s) = All-nil (HoldsAt g)
all_hold g _ _ _ (IsWalkTree.dropped ps ms d r) (AreCells.end _ e k h t) = absurd (kept_or_dropped g ps k d)
all_hold g _ _ _ (IsWalkTree.dropped ps ms d r) (AreCells.question _ q cs ds h a b) = absurd (kept_or_dropped g ps h.kept d)
all_hold g _ _ _ (IsWalkTree.split ps q t u h a b) (AreCells.dropped _ d s) = absurd (kept_or_dropped g ps h.kept d)
all_hold g _ _ _ (IsWalkTree.split ps q t u h a b) (AreCells.end _ e k i s) = absurd (end_or_question g ps e q i h.asks)
all_hold g _ _ _ (IsWalkTree.split ps q t u h a b) (AreCells.question _ r cs ds i c d) =
    let e : r ≡ q = one_question g ps r q i.asks h.asks in
    All-append (HoldsAt g) cs ds (all_hold g (onto ps q true) t cs a (subst (λ x. AreCells g (onto ps x true) cs) e c)) (all_hold g (onto ps q false) u ds b (subst (λ x. AreCells g (onto ps x false) ds) e d))
all_hold g _ _ _ (IsWalkTree.pieces ps e t k h r) (AreCells.dropped _ d s) = absurd (kept_or_dropped g ps k d)
all_hold g _ _ _ (IsWalkTree.pieces ps e t k h r) (AreCells.end _ f l i s) = All-cons (HoldsAt g) ps [] (cell_holds g ps t e h r) (All-nil (HoldsAt g))
all_hold g _ _ _ (IsWalkTree.pieces ps e t k h r) (AreCells.question _ q cs ds i a b) = absurd (end_or_question g ps e q h i.asks)
all_hold g _ _ _ (IsWalkTree.plain ps k p) (AreCells.dropped _ d s) = absurd (kept_or_dropped g ps k d)
all_hold g _ _ _ (IsWalkTree.plain ps k p) (AreCells.end _ f l i s) = All-cons (HoldsAt g) ps [] (inl p) (All-nil (HoldsAt g))
all_hold g _ _ _ (IsWalkTree.plain ps k p) (AreCells.question _ q cs ds i a b) = absurd (end_or_question g ps p.ends q p.at_end i.asks)

-- ---- The place of a front among all cells

-- The cells of a front, with those before and after it.
pub record Located (g : Goal) (ps : List Taken) (before all : List (List Taken)) : Type 0 where
  pub here : List (List Taken)
  pub behind : List (List Taken)
  pub are_cells : AreCells g ps here
  pub whole : all ≡ before ++ (here ++ behind)

-- The cells of the two branches of a front.
record TwoBranches (g : Goal) (ps : List Taken) (q : Atom) (cells : List (List Taken)) : Type 0 where
  yes : List (List Taken)
  no : List (List Taken)
  are_yes : AreCells g (onto ps q true) yes
  are_no : AreCells g (onto ps q false) no
  whole : cells ≡ yes ++ no

two_branches : (g : Goal) (ps : List Taken) (q : Atom) (cells : List (List Taken)) → GoesOn g ps q → AreCells g ps cells → TwoBranches g ps q cells
two_branches g _ q _ h (AreCells.dropped ps d s) = absurd (kept_or_dropped g ps h.kept d)
two_branches g _ q _ h (AreCells.end ps e k i s) = absurd (end_or_question g ps e q i h.asks)
two_branches g _ q _ h (AreCells.question ps r cs ds i a b) = let e : r ≡ q = one_question g ps r q i.asks h.asks in record { yes = cs; no = ds; are_yes = subst (λ x. AreCells g (onto ps x true) cs) e a; are_no = subst (λ x. AreCells g (onto ps x false) ds) e b; whole = refl }

pub located : (g : Goal) (ps : List Taken) (before all : List (List Taken)) → AreBefore g ps before → AreCells g [] all → Located g ps before all
located g _ _ all AreBefore.start a = record { here = all; behind = []; are_cells = a; whole = sym (append-nil all) }
located g _ _ all (AreBefore.first ps q cs h b) a =
    let l = located g ps cs all b a in
    let t = two_branches g ps q l.here h l.are_cells in
    record { here = t.yes; behind = t.no ++ l.behind; are_cells = t.are_yes; whole = l.whole ∙ ap (λ x. cs ++ (x ++ l.behind)) t.whole ∙ ap (λ x. cs ++ x) (append_assoc t.yes t.no l.behind) }
located g _ _ all (AreBefore.second ps q cs ds h b d) a =
    let l = located g ps cs all b a in
    let t = two_branches g ps q l.here h l.are_cells in
    let e : t.yes ≡ ds = cells_unique g (onto ps q true) t.yes ds t.are_yes d in
    record { here = t.no; behind = l.behind; are_cells = t.are_no; whole = l.whole ∙ ap (λ x. cs ++ (x ++ l.behind)) (t.whole ∙ ap (λ x. x ++ t.no) e) ∙ ap (λ x. cs ++ x) (append_assoc ds t.no l.behind) ∙ sym (append_assoc cs ds (t.no ++ l.behind)) }
