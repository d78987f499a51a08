-- Goals without a cause: all that their walk reaches and eliminates is within the limits.
use Rattle.std.proofs.Common.{◌≡◌, ℕ, ℤ, List, [], ◌∷◌, refl, sym, ap, ◌∙◌, subst, arith, true, false}
use Rattle.std.specs.Prelude.{Some, None}
use Rattle.std.proofs.lemmas.List.Elements.{All-nil}
use Rattle.heyvl_num.specs.Rational.{zeroʳ}
use Rattle.heylo_formula.specs.Goals.{Goal}
use Rattle.heylo_formula.specs.declared.values.Val.{Val}
use Rattle.goal_answers.specs.Trees.{Tree}
use Rattle.goal_answers.specs.declared.causes.Cause.{Cause}
use Rattle.goal_answers.specs.declared.causes.Cause.TheVariants.{Depth, Nodes, Nonlinear, Cells, Rows, Bits, Fraction}
use Rattle.farkas_check.specs.AcceptedCertificates.{has_denied}
use Rattle.linear_elim.specs.Answers.{eliminated}
use Rattle.linear_elim.specs.Elimination.{multipliers}
use Rattle.linear_elim.specs.Elimination.Outcome.{refuted}
use Rattle.linear_elim.specs.Joins.{Derived}
use Rattle.linear_form.specs.Cells.{IsDropped, IsKeptPath}
use Rattle.linear_form.specs.Nonlinear.{nonlinear_product}
use Rattle.linear_form.specs.PathRows.{rows_of}
use Rattle.linear_form.specs.Paths.{end_at, walk}
use Rattle.linear_form.specs.Query.Query.{done, bits}
use Rattle.linear_form.specs.Query.{Taken}
use Rattle.linear_form.specs.Questions.{Ends, questions}
use Rattle.linear_rows.specs.Combination.{IsContradiction}
use Rattle.linear_rows.specs.Row.{Row}
use Rattle.linear_rows.specs.Solutions.{IsSolvable}
use Rattle.linear_rows.proofs.exported.Combinations.{contradiction_unsolvable}
use Rattle.region_split.proofs.PathAnswers.{same_rows}
use Rattle.region_split.proofs.UniqueDecisions.{cells_counted, cells_or_walked, falsified_or_cause, tree_or_break}
use Rattle.region_split.proofs.UniqueWalks.{end_or_question}
use Rattle.region_split.proofs.WithinLimits.{IsWithinLimits, no_rows_within, refuted_within}
use Rattle.region_split.specs.Decisions.{Eliminates, HasManyRows, IsCause, IsFalsified, IsLarge, IsLookedAt}
use Rattle.region_split.specs.Pieces.{IsPieceOf, IsSplitAt}
use Rattle.region_split.specs.Walk.{AreBefore, AreCells, IsReached, IsSettled, IsWalked}
use Rattle.region_split.specs.WalkTree.{IsPieceTree, IsWalkTree}

-- ---- Within the limits

-- A front whose rows without the denied goal, end and denied goal are within the limits.
pub record IsFineFront (g : Goal) (ps : List Taken) : Type 0 where
  pub rows : List Row
  pub are_rows : rows_of g ps false ≡ Some rows
  pub within : IsWithinLimits rows g.types
  pub asked : end_at g ps ≡ bits → ⊥
  pub stated : IsDropped g ps → rows_of g ps true ≡ None → ⊥

-- A piece whose rows are within the limits.
pub record IsFinePiece (g : Goal) (ps : List Taken) : Type 0 where
  pub rows : List Row
  pub are_rows : rows_of g ps true ≡ Some rows
  pub within : IsWithinLimits rows g.types

module _ (g : Goal) (fronts : (ps : List Taken) (cells : List (List Taken)) → IsReached g ps cells → IsFineFront g ps) (pieces : (n : ℕ) (ps : List Taken) (cells : List (List Taken)) → IsLookedAt g n ps cells → IsFinePiece g ps) where
  eliminated_within : (ps : List Taken) (rows : List Row) → Eliminates g ps rows → IsWithinLimits rows g.types
  eliminated_within ps rows (Eliminates.of_front cells r e) = let f = fronts ps cells r in subst (λ rs. IsWithinLimits rs g.types) (same_rows g ps false f.rows rows f.are_rows e) f.within
  eliminated_within ps rows (Eliminates.of_piece n cells l e) = let f = pieces n ps cells l in subst (λ rs. IsWithinLimits rs g.types) (same_rows g ps true f.rows rows f.are_rows e) f.within

  pub no_large : IsLarge g → ⊥
  no_large (IsLarge.in_values ps cells r k e) = (fronts ps cells r).asked e
  no_large (IsLarge.in_rows ps cells r e) = let f = fronts ps cells r in let k = sym e ∙ f.are_rows in absurd (cc)
  no_large (IsLarge.in_denied_goal ps cells r d e) = (fronts ps cells r).stated d e
  no_large (IsLarge.in_piece n ps cells l e) = let f = pieces n ps cells l in let k = sym e ∙ f.are_rows in absurd (cc)
  no_large (IsLarge.in_elimination ps rows e t s) = (eliminated_within ps rows e).small t

  pub no_many_rows : (steps count : ℕ) → HasManyRows g steps count → ⊥
  no_many_rows steps count h = (eliminated_within h.path h.rows h.eliminates).few steps count h.too_many_rows

  pub none_where_proved : (t : Tree) (cells : List (List Taken)) → nonlinear_product g ≡ None → IsWalkTree g [] t → IsWalked g cells → (cause : Cause) → IsCause g cause → ⊥
  none_where_proved t cells n a w Depth h = h
  none_where_proved t cells n a w Nodes h = h
  none_where_proved t cells n a w (Nonlinear s) h = let k = sym n ∙ h in absurd (cc)
  none_where_proved t cells n a w (Cells k) h = cells_or_walked g cells (cells_counted g k h.1) w
  none_where_proved t cells n a w (Rows s k) h = no_many_rows s k h.1
  none_where_proved t cells n a w Bits h = no_large h.1
  none_where_proved t cells n a w (Fraction b) h = tree_or_break g t b a h.1

  pub none_where_falsified : (p : List Val) → nonlinear_product g ≡ None → IsFalsified g p → (cause : Cause) → IsCause g cause → ⊥
  none_where_falsified p n f Depth h = h
  none_where_falsified p n f Nodes h = h
  none_where_falsified p n f (Nonlinear s) h = let k = sym n ∙ h in absurd (cc)
  none_where_falsified p n f (Cells k) h = falsified_or_cause g p (Cells k) (n, f) h (λ o. o)
  none_where_falsified p n f (Rows s k) h = no_many_rows s k h.1
  none_where_falsified p n f Bits h = no_large h.1
  none_where_falsified p n f (Fraction b) h = falsified_or_cause g p (Fraction b) (n, f) h (λ o. o)

-- ---- Goals without comparisons

module _ (g : Goal) (e : Ends) (lone : questions g ≡ done e) where
  -- The walk reaches only its start.
  pub starts : (ps : List Taken) (cells : List (List Taken)) → AreBefore g ps cells → (ps ≡ []) × (cells ≡ [])
  starts _ _ AreBefore.start = (refl, refl)
  starts _ _ (AreBefore.first ps q cs k b) = absurd (end_or_question g ps e q (ap (λ t. walk t ps) lone) k.asks)
  starts _ _ (AreBefore.second ps q cs ds k b d) = absurd (end_or_question g ps e q (ap (λ t. walk t ps) lone) k.asks)

  at_start : end_at g [] ≡ done e
  at_start = ap (λ t. walk t []) lone

  pub lone_fronts : IsFineFront g [] → (ps : List Taken) (cells : List (List Taken)) → IsReached g ps cells → IsFineFront g ps
  lone_fronts f ps cells r = subst (IsFineFront g) (sym (starts ps cells r.are_before).0) f

  unsplit : ((n x : ℕ) (m : ℤ) → IsSplitAt g n [] x m → ⊥) → (n : ℕ) (ps : List Taken) → IsPieceOf g [] n ps → ps ≡ []
  unsplit never _ _ IsPieceOf.whole = refl
  unsplit never _ _ (IsPieceOf.first n ps x m h s) = absurd (never n x m (subst (λ qs. IsSplitAt g n qs x m) (unsplit never n ps h) s))
  unsplit never _ _ (IsPieceOf.second n ps x m es h s a b) = absurd (never n x m (subst (λ qs. IsSplitAt g n qs x m) (unsplit never n ps h) s))

  pub lone_pieces : ((n x : ℕ) (m : ℤ) → IsSplitAt g n [] x m → ⊥) → IsFinePiece g [] → (n : ℕ) (ps : List Taken) (cells : List (List Taken)) → IsLookedAt g n ps cells → IsFinePiece g ps
  lone_pieces never f n ps cells l = subst (IsFinePiece g) (sym (unsplit never n ps (subst (λ c. IsPieceOf g c n ps) (starts l.cell cells l.reached.are_before).0 l.piece))) f

  pub fine_start : (rows : List Row) → rows_of g [] false ≡ Some [] → rows_of g [] true ≡ Some rows → IsFineFront g []
  fine_start rows f r = record {
    rows = [];
    are_rows = f;
    within = no_rows_within g.types;
    asked = λ h. let k = sym at_start ∙ h in absurd (cc);
    stated = λ d h. let k = sym h ∙ r in absurd (cc);
  }

  pub start_kept : rows_of g [] false ≡ Some [] → IsKeptPath g []
  start_kept f = record { rows = []; are_rows = f; solvable = record { at_values = λ x. zeroʳ; meets = All-nil _ } }

  -- A goal whose denial is refuted at once.
  module _ (rows : List Row) (c : Derived) (linear : nonlinear_product g ≡ None) (front : rows_of g [] false ≡ Some []) (cell : rows_of g [] true ≡ Some rows) (denied : has_denied g [] ≡ true) (ends : eliminated rows g.types ≡ refuted c) (contradiction : IsContradiction (multipliers c) rows) where
    unsolvable : IsSolvable rows → ⊥
    unsolvable = contradiction_unsolvable (multipliers c) rows contradiction

    no_split : (n x : ℕ) (m : ℤ) → IsSplitAt g n [] x m → ⊥
    no_split n x m s = let f = s.false_piece in unsolvable (subst IsSolvable (same_rows g [] true f.rows rows f.are_rows cell) f.solvable)

    pub refuted_tree : IsWalkTree g [] (Tree.farkas (multipliers c))
    refuted_tree = IsWalkTree.pieces [] e (Tree.farkas (multipliers c)) (start_kept front) at_start (IsPieceTree.refuted 0 [] (multipliers c) (record { rows = rows; are_rows = ap (rows_of g []) denied ∙ cell; contradiction = contradiction }))

    pub one_refuted_cell : IsWalked g ([] ∷ [])
    one_refuted_cell = record { are_cells = AreCells.end [] e (start_kept front) at_start (IsSettled.refuted (record { rows = rows; are_rows = cell; unsolvable = unsolvable })); few = omega arith }

    pub none_where_refuted : (cause : Cause) → IsCause g cause → ⊥
    none_where_refuted = none_where_proved g (lone_fronts (fine_start rows front cell)) (lone_pieces no_split (record { rows = rows; are_rows = cell; within = refuted_within rows g.types c ends (record { coefficients = contradiction.coefficients_wide; constants = contradiction.constants_wide }) })) (Tree.farkas (multipliers c)) ([] ∷ []) linear refuted_tree one_refuted_cell
