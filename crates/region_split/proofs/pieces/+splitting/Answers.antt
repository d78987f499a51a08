use Prim.Native.Nat.{suc}
use Rattle.std.proofs.Common.{◌≡◌, ◌+◌, length, refl, sym, ap, ◌∙◌, subst, arith, true, FitsSigned, rules}
use Rattle.std.specs.Prelude.{Some}
use Rattle.std.specs.Int.{w64, w128}
use Rattle.std.specs.List.{All}
use Rattle.std.proofs.lemmas.Int.{to_z-of_z}
use Rattle.heylo_formula.specs.Goals.{goal_of}
use Rattle.goal_answers.specs.declared.causes.Cause.TheVariants.{Bits}
use Rattle.linear_form.specs.PlainPaths.{path_of}
use Rattle.linear_form.specs.RowLists.{ArePathRows}
use Rattle.linear_form.specs.Splits.{split_at}
use Rattle.linear_form.specs.Query.{onto}
use Rattle.linear_rows.specs.Row.{IsRow}
use Rattle.linear_rows.specs.VariableTypes.{IsNumericRow}
use Rattle.region_split.specs.PathPoints.{with_truths}
use Rattle.region_split.specs.Pieces.{HasFirstPoint, IsSplitAt}
use Rattle.region_split.specs.internal.Progress.{IsBroken, IsPieceStand}
use Rattle.region_split.proofs.PathAnswers.{no_rows}
use Rattle.region_split.proofs.PieceSteps.{same_shown, deepest_breaks, few_rows, few_variables, first_ends, half_is_path, half_lost, half_onto, half_stands, lacks_half, piece_closed, piece_ends, piece_given, some_split_here, split_here}
use Rattle.region_split.proofs.Steps.{path_length, point_length}
use Rattle.region_split.proofs.pieces.+splitting.Goals as goal

-- ---- A piece, with its rows

pub piece_shown-with_denied_goal-requires-clause-path : goal.piece_shown-with_denied_goal-requires-clause-path
piece_shown-with_denied_goal-requires-clause-path t c = c.requires.stands.is_path

pub piece_shown-with_denied_goal-requires-clause-ends : goal.piece_shown-with_denied_goal-requires-clause-ends
piece_shown-with_denied_goal-requires-clause-ends t c = c.requires.stands.values

pub piece_shown-with_denied_goal-requires-clause-rows : goal.piece_shown-with_denied_goal-requires-clause-rows
piece_shown-with_denied_goal-requires-clause-rows t c = subst (ArePathRows (goal_of c.args.goal.now) (path_of c.args.path.now)) (sym c.in_ok-own.ensures) c.requires.stands.rows

pub piece_shown-returns-in_default : goal.piece_shown-returns-in_default
piece_shown-returns-in_default t c =
    let g = goal_of c.args.goal.now in
    let ps = path_of c.args.path.now in
    piece_ends g c.args.splits ps Bits (no_rows g ps true (rw c.in_default.is at c.in_ok-list.ensures.rows))

pub piece_shown-solve_rows-requires-clause-rows : goal.piece_shown-solve_rows-requires-clause-rows
piece_shown-solve_rows-requires-clause-rows t c = subst (All IsRow) (sym c.deref.ensures.value) (rw c.in-Rows.is at c.in_ok-list.ensures.normal)

pub piece_shown-solve_rows-requires-clause-numeric : goal.piece_shown-solve_rows-requires-clause-numeric
piece_shown-solve_rows-requires-clause-numeric t c = subst (λ ts. All (IsNumericRow ts) c.deref.result.now) (sym c.deref-2.ensures.value) (subst (λ rs. All (IsNumericRow c.args.goal.now.vars.items) rs) (sym c.deref.ensures.value) (rw c.in-Rows.is at (c.in_ok-list.ensures.numeric c.requires.typed)))

pub piece_shown-solve_rows-requires-clause-few : goal.piece_shown-solve_rows-requires-clause-few
piece_shown-solve_rows-requires-clause-few t c =
    let g = goal_of c.args.goal.now in
    let ps = path_of c.args.path.now in
    let a = rw c.in-Rows.is at c.in_ok-list.ensures.few in
    let b = ap length c.deref.ensures.value in
    few_rows g c.args.splits ps c.args.rows.now c.args.end.now (length c.deref.result.now) (length c.args.path.now) c.requires.stands (path_length c.args.path.now (length c.args.path.now) refl) (omega (arith, a, b))

pub piece_shown-solve_rows-requires-clause-few_variables : goal.piece_shown-solve_rows-requires-clause-few_variables
piece_shown-solve_rows-requires-clause-few_variables t c =
    let v = ap length c.deref-2.ensures.value in
    let f = few_variables (goal_of c.args.goal.now) c.args.splits (path_of c.args.path.now) c.args.rows.now c.args.end.now c.requires.stands in
    omega (arith, v, f)

pub piece_shown-returns-in-Refuted : goal.piece_shown-returns-in-Refuted
piece_shown-returns-in-Refuted t c =
    let g = goal_of c.args.goal.now in
    let ps = path_of c.args.path.now in
    let h = c.in_ok-multipliers.ensures g ps true ((rw c.in-Rows.is at c.in_ok-list.ensures.rows) ∙ ap Some (sym c.deref.ensures.value)) (sym c.deref-2.ensures.value) in
    piece_closed g c.args.splits ps c.args.rows.now c.args.end.now c.in-Refuted.multipliers c.leaf.result (length c.args.path.now) c.requires.stands (path_length c.args.path.now (length c.args.path.now) refl) c.leaf.ensures (rw c.in-Refuted.is at h)

pub piece_shown-with_path-requires : goal.piece_shown-with_path-requires
piece_shown-with_path-requires t c =
    let g = goal_of c.args.goal.now in
    let ps = path_of c.args.path.now in
    let h = c.in_ok-multipliers.ensures g ps true ((rw c.in-Rows.is at c.in_ok-list.ensures.rows) ∙ ap Some (sym c.deref.ensures.value)) (sym c.deref-2.ensures.value) in
    let p = point_length g ps true c.in-Point.point.items (rw c.in-Point.is at h) in
    let d = ap length c.deref-in-Point.ensures.value in
    let f = few_variables g c.args.splits ps c.args.rows.now c.args.end.now c.requires.stands in
    omega (arith, p, d, f)

pub piece_shown-returns-in-Point : goal.piece_shown-returns-in-Point
piece_shown-returns-in-Point t c =
    let g = goal_of c.args.goal.now in
    let ps = path_of c.args.path.now in
    let h = c.in_ok-multipliers.ensures g ps true ((rw c.in-Rows.is at c.in_ok-list.ensures.rows) ∙ ap Some (sym c.deref.ensures.value)) (sym c.deref-2.ensures.value) in
    piece_given g c.args.splits ps c.args.rows.now c.args.end.now c.in-Point.point.items _ c.requires.stands (rw c.in-Point.is at h) (c.in_ok-with_path-in-Point.ensures ∙ ap (with_truths ps 0) c.deref-in-Point.ensures.value)

pub piece_shown-broken_piece-requires : goal.piece_shown-broken_piece-requires
piece_shown-broken_piece-requires t c =
    let g = goal_of c.args.goal.now in
    let ps = path_of c.args.path.now in
    let h = c.in_ok-multipliers.ensures g ps true ((rw c.in-Rows.is at c.in_ok-list.ensures.rows) ∙ ap Some (sym c.deref.ensures.value)) (sym c.deref-2.ensures.value) in
    let d = c.decreases in
    (omega (arith, d), (c.requires.typed, (c.requires.stands, rw c.in-Break.is at h)))

pub piece_shown-returns : goal.piece_shown-returns
piece_shown-returns t c =
    let g = goal_of c.args.goal.now in
    let ps = path_of c.args.path.now in
    let h = c.in_ok-multipliers.ensures g ps true ((rw c.in-Rows.is at c.in_ok-list.ensures.rows) ∙ ap Some (sym c.deref.ensures.value)) (sym c.deref-2.ensures.value) in
    piece_ends g c.args.splits ps c.in-Unknown.cause (rw c.in-Unknown.is at h)

-- ---- A piece whose greedy choice breaks

pub broken_piece-returns-then-splits-ge-MOST_SPLITS : goal.broken_piece-returns-then-splits-ge-MOST_SPLITS
broken_piece-returns-then-splits-ge-MOST_SPLITS t c =
    let g = goal_of c.args.goal.now in
    let ps = path_of c.args.path.now in
    subst (IsBroken g c.args.splits ps) (sym c.in_ok-new.ensures.ok) (deepest_breaks g c.args.splits ps c.args.rows.now c.args.end.now c.args.broken c.requires.typed c.requires.stands c.if-splits-ge-MOST_SPLITS.true c.requires.breaks)

pub broken_piece-halves-requires : goal.broken_piece-halves-requires
broken_piece-halves-requires t c =
    let g = goal_of c.args.goal.now in
    let ps = path_of c.args.path.now in
    let d = c.decreases in
    let f : FitsSigned w128 c.floor.result = search rules in
    let b : FitsSigned w64 c.unwrap.result = search rules in
    let s = split_here g c.args.splits ps c.args.rows.now c.args.end.now c.args.broken _ c.unwrap.result c.requires.stands c.if-splits-ge-MOST_SPLITS.false c.requires.breaks (to_z-of_z w128 c.floor.result f ∙ c.floor.ensures.value) (sym c.unwrap.ensures ∙ c.narrow.ensures) in
    (omega (arith, d), (c.requires.typed, (c.requires.stands, subst (IsSplitAt g c.args.splits ps c.args.broken.var) (sym (to_z-of_z w64 c.unwrap.result b)) s)))

pub broken_piece-unwrap-requires : goal.broken_piece-unwrap-requires
broken_piece-unwrap-requires t c =
    let f : FitsSigned w128 c.floor.result = search rules in
    some_split_here (goal_of c.args.goal.now) (path_of c.args.path.now) c.args.broken _ c.narrow.result c.requires.breaks (to_z-of_z w128 c.floor.result f ∙ c.floor.ensures.value) c.narrow.ensures

-- ---- A piece that is split

pub halves-half-requires : goal.halves-half-requires
halves-half-requires t c = let d = c.decreases in let f = c.requires.split.few in (omega (arith, d, f), (c.requires.typed, (c.requires.stands, c.requires.split)))

pub halves-half-requires-in-Closed : goal.halves-half-requires-in-Closed
halves-half-requires-in-Closed t c = let d = c.decreases in let f = c.requires.split.few in (omega (arith, d, f), (c.requires.typed, (c.requires.stands, c.requires.split)))

pub halves-half-requires-in-Broke : goal.halves-half-requires-in-Broke
halves-half-requires-in-Broke t c = let d = c.decreases in let f = c.requires.split.few in (omega (arith, d, f), (c.requires.typed, (c.requires.stands, c.requires.split)))

pub halves-returns-in_ok-second-in-Closed : goal.halves-returns-in_ok-second-in-Closed
halves-returns-in_ok-second-in-Closed t c = c.behind_closed.ensures (goal_of c.args.goal.now) c.args.splits (path_of c.args.path.now) c.requires.split (rw c.in-Closed.is at c.in_ok-tree.ensures) c.in_ok-second-in-Closed.ensures

pub halves-returns-in_ok-second-in-Broke : goal.halves-returns-in_ok-second-in-Broke
halves-returns-in_ok-second-in-Broke t c = c.behind_broken.ensures (goal_of c.args.goal.now) c.args.splits (path_of c.args.path.now) c.requires.split (rw c.in-Broke.is at c.in_ok-tree.ensures) c.in_ok-second-in-Broke.ensures

pub halves-returns-in-Given : goal.halves-returns-in-Given
halves-returns-in-Given t c = HasFirstPoint.first c.args.splits (path_of c.args.path.now) c.args.at.now.variable c.args.at.now.bound c.in-Given.point.items c.requires.split (rw c.in-Given.is at c.in_ok-tree.ensures)

pub halves-returns-in-Unknown : goal.halves-returns-in-Unknown
halves-returns-in-Unknown t c = first_ends (goal_of c.args.goal.now) c.args.splits (path_of c.args.path.now) c.args.at.now.variable c.args.at.now.bound c.in-Unknown.cause c.requires.split (rw c.in-Unknown.is at c.in_ok-tree.ensures)

-- ---- One half

pub half-next_row-requires-clause-path : goal.half-next_row-requires-clause-path
half-next_row-requires-clause-path t c =
    let g = goal_of c.args.goal.now in
    let ps = path_of c.args.path.now in
    let x = c.args.at.now.variable in
    let m = c.args.at.now.bound in
    let b : FitsSigned w64 m = search rules in
    half_is_path g c.args.splits ps (path_of c.deref.result.now) x m c.args.held c.args.rows.now c.args.end.now c.requires.split c.requires.stands (ap path_of c.deref.ensures.value ∙ half_onto ps (path_of c.in_ok-longer.longer.items) x m _ c.args.held c.in_ok-longer.ensures (c.in_ok-atom.ensures ∙ ap (split_at x) (to_z-of_z w64 m b)) refl)

pub half-next_row-requires-clause-rows : goal.half-next_row-requires-clause-rows
half-next_row-requires-clause-rows t c =
    let g = goal_of c.args.goal.now in
    let ps = path_of c.args.path.now in
    let x = c.args.at.now.variable in
    let m = c.args.at.now.bound in
    let b : FitsSigned w64 m = search rules in
    lacks_half g ps (path_of c.deref.result.now) x m c.args.held c.args.rows.now c.in_ok-own.own.items c.requires.stands.rows c.in_ok-own.ensures (ap path_of c.deref.ensures.value ∙ half_onto ps (path_of c.in_ok-longer.longer.items) x m _ c.args.held c.in_ok-longer.ensures (c.in_ok-atom.ensures ∙ ap (split_at x) (to_z-of_z w64 m b)) refl)

pub half-piece_shown-requires : goal.half-piece_shown-requires
half-piece_shown-requires t c =
    let g = goal_of c.args.goal.now in
    let ps = path_of c.args.path.now in
    let x = c.args.at.now.variable in
    let m = c.args.at.now.bound in
    let b : FitsSigned w64 m = search rules in
    let d = c.decreases in
    let f = c.requires.split.few in
    let n : c.args.splits + 1 ≡ suc c.args.splits = omega arith in
    (omega (arith, d, f), (c.requires.typed, subst (λ i. IsPieceStand g i (path_of c.deref-in-Rows.result.now) c.deref-in-Rows-2.result.now c.args.end.now) (sym n) (half_stands g c.args.splits ps (path_of c.deref-in-Rows.result.now) x m c.args.held c.args.rows.now c.deref-in-Rows-2.result.now c.args.end.now c.requires.split c.requires.stands (ap path_of c.deref-in-Rows.ensures.value ∙ half_onto ps (path_of c.in_ok-longer.longer.items) x m _ c.args.held c.in_ok-longer.ensures (c.in_ok-atom.ensures ∙ ap (split_at x) (to_z-of_z w64 m b)) refl) (subst (ArePathRows g (path_of c.deref-in-Rows.result.now)) (sym c.deref-in-Rows-2.ensures.value) (subst (λ xs. ArePathRows g (path_of xs) c.in-Rows.more.items) (c.deref.ensures.value ∙ sym c.deref-in-Rows.ensures.value) (record { are_rows = rw c.in-Rows.is at c.in_ok-more.ensures }))))))

pub half-returns-in-Rows : goal.half-returns-in-Rows
half-returns-in-Rows t c =
    let g = goal_of c.args.goal.now in
    let ps = path_of c.args.path.now in
    let x = c.args.at.now.variable in
    let m = c.args.at.now.bound in
    let b : FitsSigned w64 m = search rules in
    let n : c.args.splits + 1 ≡ suc c.args.splits = omega arith in
    same_shown g _ (suc c.args.splits) _ (onto ps (split_at x m) c.args.held) c.piece_shown.result n (ap path_of c.deref-in-Rows.ensures.value ∙ half_onto ps (path_of c.in_ok-longer.longer.items) x m _ c.args.held c.in_ok-longer.ensures (c.in_ok-atom.ensures ∙ ap (split_at x) (to_z-of_z w64 m b)) refl) c.piece_shown.ensures

pub half-returns : goal.half-returns
half-returns t c =
    let g = goal_of c.args.goal.now in
    let ps = path_of c.args.path.now in
    let x = c.args.at.now.variable in
    let m = c.args.at.now.bound in
    let b : FitsSigned w64 m = search rules in
    half_lost g (suc c.args.splits) (onto ps (split_at x m) c.args.held) (path_of c.deref.result.now) (ap path_of c.deref.ensures.value ∙ half_onto ps (path_of c.in_ok-longer.longer.items) x m _ c.args.held c.in_ok-longer.ensures (c.in_ok-atom.ensures ∙ ap (split_at x) (to_z-of_z w64 m b)) refl) (rw c.in-Bits.is at c.in_ok-more.ensures)
