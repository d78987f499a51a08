-- The walks of two goals without comparisons, worked out by hand: one holds trivially, the other
-- fails.
use Rattle.std.proofs.Common.{◌≡◌, ℕ, ◌<◌, [], ◌∷◌, refl, sym, ◌∙◌, arith, true, ◌==◌}
use Rattle.std.specs.Prelude.{negsuc, Some, None}
use Rattle.std.proofs.lemmas.List.Elements.{All-nil, All-cons}
use Rattle.heyvl_num.specs.Gcd.{gcd, gcd_steps}
use Rattle.heyvl_num.specs.Rational.{ratio, zeroʳ, oneʳ, leqʳ, ◌+ʳ◌, ◌*ʳ◌}
use Rattle.heyvl_num.specs.Rounding.{whole}
use Rattle.heyvl_num.specs.Value.{is_zeroʳ}
use Rattle.heyvl_num.specs.Value.Value.{finite, infinite}
use Rattle.heylo_formula.specs.Formula.{Form}
use Rattle.heylo_formula.specs.Goals.{Goal}
use Rattle.heylo_formula.specs.TypedGoals.{HasItsVariables, IsTypedGoal}
use Rattle.heylo_formula.specs.declared.types.Ty.{Ty}
use Rattle.linear_values.specs.Lin.{variable, plus, minus, scaled, is_sized}
use Rattle.linear_rows.specs.Numbers.{minus_oneʳ, fits}
use Rattle.linear_form.specs.Query.Query.{done}
use Rattle.linear_form.specs.Questions.{Ends, zero, one}
use Rattle.linear_form.specs.Paths.{end_at}
use Rattle.linear_form.specs.PathRows.{denial, rows_of, IsPlainAt}
use Rattle.linear_rows.specs.Row.{Row}
use Rattle.linear_rows.specs.Solutions.{sum_of, MeetsAt, IsSolvable}
use Rattle.linear_values.specs.Tightening.{tightened}
use Rattle.linear_rows.specs.VariableOrder.{order_of}
use Rattle.linear_rows.specs.GreedyPoint.{Chooses}
use Rattle.linear_form.specs.Cells.{IsCell, IsKeptPath, IsFront}
use Rattle.goal_answers.specs.Trees.{Tree, depth}
use Rattle.goal_answers.specs.declared.decisions.Decision.TheVariants.{Proved}
use Rattle.goal_answers.specs.declared.trees.Tree as T
use Rattle.linear_form.specs.Nonlinear.{nonlinear_product}
use Rattle.region_split.proofs.Leaves.{plain_tree}
use Rattle.region_split.specs.Walk.{AreBefore, AreCells, IsFalse, IsReached, IsSettled}
use Rattle.region_split.specs.WalkTree.{IsWalkTree}
use Rattle.region_split.specs.PathPoints.{IsPointOf}
use Rattle.region_split.specs.Pieces.{EndsOf, HasFirstPoint}
use Rattle.region_split.specs.DecisionLaws.{IsOfLimits}
use Rattle.region_split.specs.Decisions.{IsDecision, IsFalsified}

-- Infinity is at least x.
abbrev pub plain_goal : Goal
plain_goal = record { upper = true; stated = Form.number infinite; found = Form.variable 0; types = Ty.UInt ∷ []; names = []; own = 0 }

plain_kept : IsKeptPath plain_goal []
plain_kept = record { rows = []; are_rows = refl; solvable = record { at_values = λ x. zeroʳ; meets = All-nil _ } }

pub holds_plainly : IsPlainAt plain_goal []
holds_plainly = record { ends = (None, Some (variable 0)); at_end = refl; plain = refl }

one_leaf : IsWalkTree plain_goal [] Tree.plain × (depth Tree.plain ≡ 1)
one_leaf = (IsWalkTree.plain [] plain_kept holds_plainly, refl)

one_cell : AreCells plain_goal [] ([] ∷ [])
one_cell = AreCells.end [] (None, Some (variable 0)) plain_kept refl (IsSettled.plain holds_plainly)

reached_first : IsReached plain_goal [] []
reached_first = record { are_before = AreBefore.start; few = omega arith }

-- The walk proves the goal, and the decision satisfies the premises of the laws of decisions.
plain_is_proved : IsDecision plain_goal (Proved (Some T.Plain)) × (IsOfLimits (Proved (Some T.Plain)) → ⊥)
plain_is_proved = ((refl, record { cells = [] ∷ []; walked = record { are_cells = one_cell; few = omega arith }; tree = Tree.plain; is_tree = one_leaf.0; is_given = (plain_tree, omega arith) }), λ n. n)

plain_is_typed : IsTypedGoal plain_goal × HasItsVariables plain_goal
plain_is_typed = (record { stated = refl; found = refl }, record { stated = λ x e. absurd (cc); found = λ x e. first x e })
  where
    first : (x : ℕ) → (x == 0) ≡ true → x < 1
    first x e = grind arith

-- Its tree satisfies the premises of the laws of trees.
plain_is_certified : (nonlinear_product plain_goal ≡ None) × IsWalkTree plain_goal [] Tree.plain
plain_is_certified = (refl, one_leaf.0)

-- 0 is at least 1.
abbrev pub false_goal : Goal
false_goal = record { upper = true; stated = Form.number (finite zeroʳ); found = Form.number (finite oneʳ); types = []; names = []; own = 0 }

unfoldable pub below_zero : Row
below_zero = record { terms = []; rest = negsuc 0; strict = true }

false_kept : IsKeptPath false_goal []
false_kept = record { rows = []; are_rows = refl; solvable = record { at_values = λ x. zeroʳ; meets = All-nil _ } }

pub false_end : end_at false_goal [] ≡ done (zero, one)
unfolding is_sized fits ratio gcd gcd_steps zeroʳ oneʳ
false_end = refl

pub denied_row : rows_of false_goal [] true ≡ Some (below_zero ∷ [])
unfolding below_zero minus plus scaled minus_oneʳ is_sized fits is_zeroʳ tightened ratio gcd gcd_steps zeroʳ oneʳ ◌+ʳ◌ ◌*ʳ◌
denied_row = refl

met : MeetsAt (λ x. zeroʳ) below_zero
unfolding below_zero sum_of whole ratio gcd gcd_steps zeroʳ leqʳ ◌+ʳ◌
met = record { met = record { holds = refl } }

denied_solvable : IsSolvable (below_zero ∷ [])
denied_solvable = record { at_values = λ x. zeroʳ; meets = All-cons (MeetsAt (λ x. zeroʳ)) below_zero [] met (All-nil _) }

not_plain : IsPlainAt false_goal [] → ⊥
not_plain p = go p.ends (sym false_end ∙ p.at_end) p.plain
  where
    go : (e : Ends) → done (zero, one) ≡ done e → denial true e ≡ None → ⊥
    go e h k = let i : (zero, one) ≡ e = cc in let j = rw (← i) at k in absurd (cc)

pub false_cell : IsCell false_goal []
false_cell = record { front = IsFront.start; kept = false_kept; ends = (zero, one); at_end = false_end }

false_piece : IsFalse false_goal []
false_piece = record { not_plain = not_plain; rows = below_zero ∷ []; are_rows = denied_row; solvable = denied_solvable }

pub false_point : IsPointOf false_goal [] []
unfolding order_of
false_point = record { rows = below_zero ∷ []; are_rows = denied_row; values = []; greedy = record { solvable = denied_solvable; chosen = []; choice = Chooses.ends []; state = record { each = refl; values = λ x l. absurd (omega (arith, l)) } }; truths = refl }

-- The state without variables falsifies it.
pub falsified : IsFalsified false_goal []
falsified = record {
  cells = [] ∷ [];
  walked = record { are_cells = AreCells.end [] (zero, one) false_kept false_end (IsSettled.falsified false_cell false_piece); few = omega arith };
  first = record { before = []; cell = []; after = []; whole = refl; ends = []; are_ends = EndsOf.start; broken = All-nil _; is_cell = false_cell; gives = HasFirstPoint.whole 0 [] [] false_piece false_point };
}
