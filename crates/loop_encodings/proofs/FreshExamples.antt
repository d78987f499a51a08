-- The fresh variables of a loop whose body calls, with two copies: they are read between the acts
-- of its encoding, and occur in neither form of the main goal.
use Rattle.std.proofs.Common.{◌≡◌, refl, true, false, [], ◌∷◌}
use Rattle.std.specs.Prelude.{Some, None}
use Rattle.heyvl_num.specs.Value.{oneᵛ}
use Rattle.heyvl_places.specs.declared.checks.CheckKind.{CheckKind}
use Rattle.heylo_formula.specs.Formula.{Form, Cond, Term}
use Rattle.heylo_formula.specs.Substitution as Replaced
use Rattle.heylo_formula.specs.Variables.{is_free, occurs}
use Rattle.heylo_formula.specs.declared.types.Ty.{Ty}
use Rattle.heyvl_acts.specs.Acts.{Act, Acts, TypedProcedure, nobody}
use Rattle.vp_generator.specs.GeneratedForms.{vp}
use Rattle.loop_encodings.specs.FreshLaws.{generated_form, main_goal}
use Rattle.loop_encodings.proofs.Examples.{here, named}

-- The variable 0 is its input and 1 its output.
abbrev step : TypedProcedure
step = record nobody { inputs = named 10 Ty.UInt ∷ []; outputs = named 11 Ty.UInt ∷ []; pre = Form.variable 0; post = Form.sum (Form.variable 0) (Form.variable 1) }

abbrev one_more : Form → Form
one_more f = Form.sum f (Form.number oneᵛ)

-- The variable 0 is a flag and 1 a number: while the flag holds, the number becomes the output of
-- step for the number plus 1.
abbrev stepping : TypedProcedure
stepping = record nobody {
  outputs = named 20 Ty.Bool ∷ named 21 Ty.UInt ∷ [];
  pre = Form.number oneᵛ;
  post = Form.variable 1;
  body = Some (Acts.next (Act.loop (record { number = 1; k = 2; inv = Form.variable 1; guard = Cond.flag 0; rank = None; scope = 0 ∷ 1 ∷ []; span = here }) (Acts.next (Act.call (1 ∷ []) 0 (Term.number (one_more (Form.variable 1)) ∷ []) here) Acts.done)) Acts.done);
}

-- The variable 2 is the fresh input of step and 3 the fresh output; the binders have the numbers
-- from 4 on.
own_of_stepping : (main_goal (step ∷ []) stepping []).own ≡ 4
own_of_stepping = refl

types_of_stepping : (main_goal (step ∷ []) stepping []).types ≡ Ty.Bool ∷ Ty.UInt ∷ Ty.UInt ∷ Ty.UInt ∷ Ty.UInt ∷ Ty.UInt ∷ Ty.UInt ∷ []
unfolding Replaced.subst Replaced.fresh Replaced.least_unused
types_of_stepping = refl

-- In the generated form the outputs of both copies' calls are bound, the inner one under its own
-- number.
abbrev last_copy : Form
last_copy = Form.co_validate (Form.co_imply (Form.sum (one_more (Form.variable 3)) (Form.variable 1048576)) (Form.max (Form.variable 1048576) (Form.co_imply (Form.embed (Cond.constant true)) (Form.variable 1048576))))

abbrev both_copies : Form
both_copies = Form.co_validate (Form.co_imply (Form.sum (one_more (Form.variable 1)) (Form.variable 3)) (Form.min (Form.variable 3) (Form.select (Cond.flag 0) (Form.max (one_more (Form.variable 3)) (Form.bind true 1048576 3 Ty.UInt last_copy)) (Form.variable 3))))

form_of_stepping : generated_form (step ∷ []) stepping ≡ Form.max (Form.variable 1) (Form.bind true 1 1 Ty.UInt (Form.co_validate (Form.co_imply (Form.variable 1) (Form.select (Cond.flag 0) (Form.max (one_more (Form.variable 1)) (Form.bind true 3 3 Ty.UInt both_copies)) (Form.variable 1)))))
unfolding Replaced.subst Replaced.fresh Replaced.least_unused
form_of_stepping = refl

fresh_not_free : (is_free 2 (generated_form (step ∷ []) stepping) ≡ false) × (is_free 3 (generated_form (step ∷ []) stepping) ≡ false)
unfolding Replaced.subst Replaced.fresh Replaced.least_unused
fresh_not_free = (refl, refl)

-- The number 3 occurs there as a binder's, and nowhere in the goal.
bound_in_the_form : occurs 3 (generated_form (step ∷ []) stepping) ≡ true
unfolding Replaced.subst Replaced.fresh Replaced.least_unused
bound_in_the_form = refl

fresh_lacking : (occurs 2 (main_goal (step ∷ []) stepping []).found ≡ false) × (occurs 3 (main_goal (step ∷ []) stepping []).found ≡ false)
unfolding Replaced.subst Replaced.fresh Replaced.least_unused
fresh_lacking = (refl, refl)

-- ---- Encodings that read fresh variables: a call whose input is not assigned, and one whose
-- output does not take any value

abbrev given_back : Acts
given_back = Acts.next (Act.check CheckKind.CoAssume (Form.sum (Form.variable 2) (Form.variable 3)) here) (Acts.next (Act.set 1 (Term.number (Form.variable 3)) here) Acts.done)

input_not_given : is_free 2 (vp (Acts.next (Act.check CheckKind.CoAssert (Form.variable 2) here) (Acts.next (Act.any 3 true Ty.UInt here) given_back)) (Form.variable 1)) ≡ true
unfolding Replaced.subst
input_not_given = refl

output_not_chosen : is_free 3 (vp (Acts.next (Act.set 2 (Term.number (one_more (Form.variable 1))) here) given_back) (Form.variable 1)) ≡ true
unfolding Replaced.subst
output_not_chosen = refl
