-- A proc with `@wlp` and one loop by hand: `d = false`, and then `while !d { d = flip(1/2) }`. Its
-- runs of at most m iterations take at most 2m + 2 steps.
use Rattle.std.proofs.Common.{◌≡◌, refl, true, false, [], ◌∷◌, pos}
use Rattle.std.specs.Prelude.{Some, None, length}
use Rattle.heyvl_num.specs.Rational.{Rational, ratio}
use Rattle.heyvl_num.specs.Value.{zeroᵛ, oneᵛ}
use Rattle.heyvl_places.specs.declared.spans.Span.{Span}
use Rattle.heylo_formula.specs.Formula.{Form, Cond, Term}
use Rattle.heylo_formula.specs.declared.types.Ty.{Ty}
use Rattle.heyvl_acts.specs.Acts.{Head, Act, Acts, TypedProcedure, variables}
use Rattle.heylo_formula.specs.Substitution as Replaced
use Rattle.lower_goals.specs.OmegaGoals.{greater, smaller}
use Rattle.lower_goals.specs.OmegaPairs.{IsOmegaPair, formula_of, places}
use Rattle.lower_goals.specs.declared.answers.Step.TheVariants as Step
use Rattle.lower_goals.specs.OneLoop.{IsOneLoop, steps, steps_from_test}

abbrev pub nowhere : Span
nowhere = record { from = 0; to = 0 }

abbrev half : Rational
half = ratio (pos 1) 2

abbrev pub set_false : Term
set_false = Term.truth (Cond.constant false)

abbrev pub front : Acts
front = Acts.next (Act.set 0 set_false nowhere) Acts.done

abbrev pub body : Acts
body = Acts.next (Act.draw 0 ((half, Term.truth (Cond.constant true)) ∷ (half, Term.truth (Cond.constant false)) ∷ []) nowhere) Acts.done

abbrev head : Head
head = record { number = 1; k = 1; inv = Form.number oneᵛ; guard = Cond.not (Cond.flag 0); rank = None; scope = 0 ∷ []; span = nowhere }

abbrev pub post : Form
post = Form.iverson (Cond.flag 0)

abbrev two : TypedProcedure
two = record { name = []; co = false; weak = true; inputs = []; outputs = record { name = []; ty = Ty.Bool } ∷ []; locals = []; pre = Form.number oneᵛ; post = post; body = Some (Acts.next (Act.set 0 (Term.truth (Cond.constant false)) nowhere) (Acts.next (Act.loop head body) Acts.done)); loops = 1; span = nowhere }

two_has_one_loop : IsOneLoop two front head body Acts.done
two_has_one_loop = record { whole = refl; plain_front = (tt, tt); plain_body = (tt, tt); plain_behind = tt; weak = refl; program = refl }

steps_of_three_turns : (steps_from_test body Acts.done 3 ≡ 7) × (steps front body Acts.done 3 ≡ 8)
steps_of_three_turns = (refl, refl)

-- ---- An omega pair: the second procedure is `two_j(d: Bool, m: UInt)` with pre `ite(d, 1, 0)`

abbrev two_j : TypedProcedure
two_j = record { name = []; co = false; weak = false; inputs = record { name = []; ty = Ty.Bool } ∷ record { name = []; ty = Ty.UInt } ∷ []; outputs = []; locals = []; pre = Form.select (Cond.flag 0) (Form.number oneᵛ) (Form.variable 1); post = Form.number zeroᵛ; body = None; loops = 0; span = nowhere }

two_are_a_pair : IsOmegaPair two head two_j
two_are_a_pair = record { proc = refl; bodiless = refl; no_outputs = refl; inputs = refl }

-- Its first input means the variable d of the first procedure, and its last one the variable after
-- d.
formula_of_two : formula_of two head two_j ≡ Form.select (Cond.flag 0) (Form.number oneᵛ) (Form.variable 1)
formula_of_two = refl

-- With one more iteration, the larger side is the pre-expectation over the body while d is false,
-- otherwise the post.
turn_of_two : greater two head body Acts.done (formula_of two head two_j) Step.Turn ≡ Form.select (Cond.not (Cond.flag 0)) (Form.sum (Form.scale half (Form.select (Cond.constant true) (Form.number oneᵛ) (Form.variable 1))) (Form.scale half (Form.select (Cond.constant false) (Form.number oneᵛ) (Form.variable 1)))) (Form.iverson (Cond.flag 0))
unfolding Replaced.subst
turn_of_two = refl

more_of_two : smaller 1 (formula_of two head two_j) Step.Turn ≡ Form.select (Cond.flag 0) (Form.number oneᵛ) (Form.sum (Form.variable 1) (Form.number oneᵛ))
unfolding Replaced.subst
more_of_two = refl

base_of_two : (smaller 1 (formula_of two head two_j) Step.Base ≡ Form.select (Cond.flag 0) (Form.number oneᵛ) (Form.number zeroᵛ)) × (greater two head body Acts.done (formula_of two head two_j) Step.Base ≡ Form.select (Cond.not (Cond.flag 0)) (Form.number zeroᵛ) (Form.iverson (Cond.flag 0)))
unfolding Replaced.subst
base_of_two = (refl, refl)

-- A scope with gaps: the inputs mean the variables 0 and 2, and the number of iterations follows
-- all three.
places_with_gaps : (x : TypedProcedure) → places x (record head { scope = 0 ∷ 2 ∷ [] }) ≡ 0 ∷ 2 ∷ length (variables x) ∷ []
places_with_gaps x = refl
