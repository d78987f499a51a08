-- The requirements of the laws of encodings, at a procedure that calls another one: both satisfy
-- the static rules, and the call has fresh variables.
use Rattle.std.proofs.Common.{◌<◌, refl, List, [], ◌∷◌, length, arith}
use Rattle.std.specs.Prelude.{Some}
use Rattle.heyvl_num.specs.Rational.{ratio, zeroʳ, oneʳ, leqʳ}
use Rattle.heyvl_num.specs.Value.{oneᵛ}
use Rattle.heylo_formula.specs.Formula.{Form, Term}
use Rattle.heylo_formula.specs.Typing.{TermFits, types_in}
use Rattle.heylo_formula.specs.declared.types.Ty.{Ty}
use Rattle.heyvl_acts.specs.Acts.{Act, Acts, TypedProcedure, nobody}
use Rattle.heyvl_acts.specs.Rules.{Each, MeetsRules}
use Rattle.heyvl_acts.specs.WellTypedActs.{IsHeld}
use Rattle.loop_encodings.specs.FreshLaws.{IsFreshNumber}
use Rattle.loop_encodings.proofs.Examples.{here, named}

-- The variable 0 is its input and 1 its output.
abbrev step : TypedProcedure
step = record nobody { inputs = named 10 Ty.UInt ∷ []; outputs = named 11 Ty.UInt ∷ []; pre = Form.variable 0; post = Form.sum (Form.variable 0) (Form.variable 1) }

-- Its output is that of step for 1.
abbrev calling : TypedProcedure
calling = record nobody { outputs = named 20 Ty.UInt ∷ []; pre = Form.number oneᵛ; post = Form.variable 0; body = Some (Acts.next (Act.call (0 ∷ []) 0 (Term.number (Form.number oneᵛ) ∷ []) here) Acts.done) }

abbrev file : List TypedProcedure
file = step ∷ calling ∷ []

step_meets : MeetsRules file step
step_meets = record {
  few_parameters = omega arith;
  few_variables = omega arith;
  few_statements = omega arith;
  weak_is_proc = λ e. absurd (cc);
  pre = (refl, refl);
  pre_over = λ y e. grind arith;
  post = refl;
  post_over = λ y e. grind arith;
  post_directed = refl;
  targets = tt;
  typed = tt;
  weights = tt;
  directions = tt;
  binders = tt;
  scopes = tt;
  loops = tt;
  numbered = refl;
}

one_held : IsHeld (types_in []) (Form.number oneᵛ)
unfolding oneᵛ oneʳ zeroʳ ratio leqʳ
one_held = (refl, refl)

one_fits : TermFits (types_in (Ty.UInt ∷ [])) Ty.UInt (Term.number (Form.number oneᵛ))
unfolding oneᵛ oneʳ zeroʳ ratio leqʳ
one_fits = (refl, refl)

calling_meets : MeetsRules file calling
calling_meets = record {
  few_parameters = omega arith;
  few_variables = omega arith;
  few_statements = omega arith;
  weak_is_proc = λ e. absurd (cc);
  pre = one_held;
  pre_over = λ y e. absurd (cc);
  post = refl;
  post_over = λ y e. grind arith;
  post_directed = refl;
  targets = ((record { no_input = omega arith; below = omega arith }, tt), tt);
  typed = (record { there = omega arith; arguments = (one_fits, tt); targets = (refl, tt) }, tt);
  weights = (tt, tt);
  directions = (record { direction = refl; plain = refl }, tt);
  binders = ((λ e. absurd (cc)), tt);
  scopes = (((λ y e. absurd (cc)), tt), tt);
  loops = (tt, tt);
  numbered = refl;
}

-- The file satisfies the static rules and has a second procedure, as `EncodingIsOver`,
-- `EncodingBindsItsVariables` and `MainFormsAreOverOwnVariables` require.
file_meets_the_rules : Each (MeetsRules file) file × (1 < length file)
file_meets_the_rules = ((step_meets, (calling_meets, tt)), omega arith)

-- The number of the fresh input of step is 1, as `FreshVariablesAreNotFree` and
-- `MainGoalsLackFreshVariables` require.
input_is_fresh : IsFreshNumber file calling 1
input_is_fresh = record { after_own = omega arith; below_all = omega arith }
