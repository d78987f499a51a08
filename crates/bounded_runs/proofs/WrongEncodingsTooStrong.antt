-- The bound of a loop with two copies of its body, by the law of encodings; and an encoding that
-- requires too much: it has a coassert between the copies instead of an assert.
use Rattle.std.proofs.Common.{◌≡◌, refl, ℕ, ◌||◌, Bool, true, false, List, [], ◌∷◌, pos, arith}
use Rattle.std.specs.Prelude.{Some, if◌then◌else◌}
use Rattle.heyvl_num.specs.Rational.{zeroʳ, oneʳ, halfʳ, ratio, leqʳ, ◌+ʳ◌, ◌*ʳ◌}
use Rattle.heyvl_num.specs.Value.{Value, zeroᵛ, oneᵛ, is_zeroʳ, leqᵛ, ◌+ᵛ◌, ◌*ᵛ◌, ◌≤ᵛ◌}
use Rattle.heyvl_num.specs.Value.Value.{finite, infinite}
use Rattle.heyvl_num.specs.ValueOperators.{minᵛ, maxᵛ, coimpliesᵛ}
use Rattle.heyvl_places.specs.declared.checks.CheckKind.{CheckKind}
use Rattle.heylo_formula.specs.Choices.{Choices, here, right}
use Rattle.heylo_formula.specs.Formula.{Form, Term}
use Rattle.heylo_formula.specs.Goals.{Compares}
use Rattle.heylo_formula.specs.Meaning.{value}
use Rattle.heylo_formula.specs.Operators.{covalidateᵛ, equalᵛ}
use Rattle.heylo_formula.specs.State.{environment, fit, number_of, IsTyped}
use Rattle.heylo_formula.specs.Typing.{types_in, is_well_typed, IsFormula, TermFits}
use Rattle.heylo_formula.specs.declared.types.Ty.{Ty}
use Rattle.heylo_formula.specs.declared.values.Val.{Val}
use Rattle.heylo_formula.specs.declared.values.Val.TheVariants.{Truth, Num}
use Rattle.heyvl_acts.specs.Acts.{Act, Acts, TypedProcedure, nobody, types_of}
use Rattle.heyvl_acts.specs.Forward.{forward}
use Rattle.heyvl_acts.specs.Rules.{MeetsRules}
use Rattle.heyvl_acts.specs.WellTypedActs.{IsHeld}
use Rattle.k_induction.specs.Copies.{if_holds, last_copy, may, meets, must}
use Rattle.run_machine.specs.Bound.{Bound}
use Rattle.loop_encodings.specs.BoundGoals.{IsBounded}
use Rattle.loop_encodings.specs.Encoding.{encoding, havocs}
use Rattle.loop_encodings.proofs.exported.Examples.{at, here as place, half, whole, named, x_is, hop_guard, hop_head, hop_invariant, hop_step}
use Rattle.bounded_runs.proofs.LawExamples.{bound_of}
use Rattle.bounded_runs.proofs.SmallPrograms.{only, only_first, half_from_zero, fair_weighs_one}

-- The hop from 1: to 2, and from there to 0 or to 3, each with the probability 1/2. It is bounded
-- by the probability of terminating at 3.
abbrev hopping : TypedProcedure
hopping = record nobody {
  outputs = named 20 Ty.UInt ∷ [];
  pre = whole half;
  post = Form.iverson (x_is (ratio (pos 3) 1));
  body = Some (Acts.next (Act.set 0 (Term.number (whole (ratio (pos 1) 1))) at) (only (Act.loop (hop_head 2) (only hop_step))));
  loops = 1;
}

-- The encoding with another check between the copies.
abbrev with_check : CheckKind → Acts
with_check kind =
    Acts.next (Act.set 0 (Term.number (whole (ratio (pos 1) 1))) at) (
    Acts.next (Act.check (must true) hop_invariant place) (
    havocs true place (types_of hopping) (0 ∷ []) (
    Acts.next (Act.validate true place) (
    Acts.next (Act.check (may true) hop_invariant place) (
    only (if_holds place hop_guard (
    Acts.next hop_step (
    Acts.next (Act.check kind hop_invariant place) (
    only (if_holds place hop_guard (last_copy true place hop_invariant (only hop_step))))))))))))

encoding_is_with_assert : encoding (hopping ∷ []) hopping ≡ with_check (meets true)
encoding_is_with_assert = refl

-- ---- The goal holds

-- The values of two copies from 1, and from 2.
abbrev from_one : Value
from_one = minᵛ oneᵛ ((finite half *ᵛ maxᵛ zeroᵛ (coimpliesᵛ infinite zeroᵛ)) +ᵛ (finite half *ᵛ maxᵛ oneᵛ (coimpliesᵛ infinite oneᵛ)))

abbrev from_two : Value
from_two = (finite half *ᵛ minᵛ zeroᵛ zeroᵛ) +ᵛ (finite half *ᵛ minᵛ oneᵛ oneᵛ)

inductive : (a b d : Bool) → maxᵛ (finite half) (covalidateᵛ (coimpliesᵛ (if a then finite half else (if b then oneᵛ else (if d then oneᵛ else zeroᵛ))) (if a || b then (if a then from_one else from_two) else (if d then oneᵛ else zeroᵛ)))) ≤ᵛ finite half
unfolding minᵛ maxᵛ coimpliesᵛ covalidateᵛ is_zeroʳ leqᵛ leqʳ ◌+ᵛ◌ ◌*ᵛ◌ zeroᵛ oneᵛ zeroʳ oneʳ ◌+ʳ◌ ◌*ʳ◌ ratio
inductive true b d = record { holds = refl }
inductive false true d = record { holds = refl }
inductive false false true = record { holds = refl }
inductive false false false = record { holds = refl }

abbrev hopped_to : ℕ → Choices → Bool
hopped_to n c = equalᵛ (finite (number_of (fit Ty.UInt (here (right c))))) (finite (ratio (pos n) 1))

hopping_meets_its_goal : IsBounded (hopping ∷ []) hopping
unfolding minᵛ maxᵛ coimpliesᵛ covalidateᵛ is_zeroʳ leqᵛ leqʳ ◌+ᵛ◌ ◌*ᵛ◌ zeroᵛ oneᵛ zeroʳ oneʳ ◌+ʳ◌ ◌*ʳ◌ ratio
hopping_meets_its_goal s c t = inductive (hopped_to 1 c) (hopped_to 2 c) (hopped_to 3 c)

-- ---- So its bound holds

whole_held : (tys : List Ty) → IsHeld (types_in tys) (whole half)
unfolding zeroʳ ratio leqʳ
whole_held tys = (refl, refl)

invariant_held : IsHeld (types_in (Ty.UInt ∷ [])) hop_invariant
unfolding oneᵛ oneʳ zeroʳ ratio leqʳ
invariant_held = (refl, refl)

guard_typed : is_well_typed (types_in (Ty.UInt ∷ [])) hop_guard ≡ true
unfolding zeroʳ ratio leqʳ
guard_typed = refl

guards_typed : is_well_typed (types_in (Ty.UInt ∷ [])) (x_is (ratio (pos 1) 1)) ≡ true
unfolding zeroʳ ratio leqʳ
guards_typed = refl

post_typed : IsFormula (types_in (Ty.UInt ∷ [])) hopping.post
unfolding zeroʳ ratio leqʳ
post_typed = refl

abbrev Fits : ℕ → Type 0
Fits n = TermFits (types_in (Ty.UInt ∷ [])) Ty.UInt (Term.number (whole (ratio (pos n) 1)))

zero_fits : Fits 0
unfolding zeroʳ ratio leqʳ
zero_fits = (refl, refl)

one_fits : Fits 1
unfolding zeroʳ ratio leqʳ
one_fits = (refl, refl)

two_fits : Fits 2
unfolding zeroʳ ratio leqʳ
two_fits = (refl, refl)

three_fits : Fits 3
unfolding zeroʳ ratio leqʳ
three_fits = (refl, refl)

hopping_meets : MeetsRules (hopping ∷ []) hopping
unfolding halfʳ
hopping_meets = record {
  few_parameters = omega arith;
  few_variables = omega arith;
  few_statements = omega arith;
  weak_is_proc = λ e. absurd (cc);
  pre = whole_held [];
  pre_over = λ y e. absurd (cc);
  post = post_typed;
  post_over = λ y e. grind arith;
  post_directed = refl;
  targets = (record { no_input = omega arith; below = omega arith }, (tt, (tt, (record { no_input = omega arith; below = omega arith }, (record { no_input = omega arith; below = omega arith }, tt)))));
  typed = (one_fits, (record { inv = invariant_held; guard = guard_typed; rank = tt }, ((guards_typed, tt), (two_fits, (((half_from_zero, zero_fits), ((half_from_zero, three_fits), tt)), tt)))));
  weights = (tt, (tt, (tt, (tt, (fair_weighs_one _ _, tt)))));
  directions = (tt, (tt, (tt, (tt, (tt, tt)))));
  binders = ((λ e. absurd (cc)), ((λ e. absurd (cc)), ((λ e. absurd (cc)), ((λ e. absurd (cc)), ((λ e. absurd (cc)), tt)))));
  scopes = ((λ y e. absurd (cc)), ((only_first, (((λ y e. grind arith), ((λ y e. grind arith), tt)), ((((λ y e. grind arith), (((λ y e. absurd (cc)), tt), tt)), (((λ y e. absurd (cc)), ((λ y e. absurd (cc)), tt)), tt)), tt))), tt));
  loops = (tt, (record { some_copy = omega arith; few_copies = omega arith; scope = ((omega arith, omega arith), tt); ranked = tt; nothing_against = (refl, (refl, (refl, tt))) }, (tt, (tt, (tt, tt)))));
  numbered = refl;
}

hopping_is_bounded : Bound (hopping ∷ []) 0
hopping_is_bounded = bound_of hopping hopping_meets refl (hopping_meets_its_goal, tt) (λ q e. absurd (cc))

-- ---- With a coassert between the copies it fails: at 1 the invariant 1/2 is below its value 1 at
-- 2

-- x is 1 before the test.
abbrev from_one_again : Choices
from_one_again = Choices.choose (Truth false) Choices.stop (Choices.choose (Num (ratio (pos 1) 1)) Choices.stop Choices.stop)

asks_too_much : ((s : List Val) (c : Choices) → IsTyped (Ty.UInt ∷ []) s → Compares true (finite half) (forward (with_check (must true)) (value hopping.post) (environment s) c)) → ⊥
unfolding minᵛ maxᵛ coimpliesᵛ covalidateᵛ is_zeroʳ leqᵛ leqʳ ◌+ᵛ◌ ◌*ᵛ◌ zeroᵛ oneᵛ zeroʳ oneʳ ◌+ʳ◌ ◌*ʳ◌ ratio
asks_too_much h = let e = (h (Num (ratio (pos 0) 1) ∷ []) from_one_again (refl, refl)).holds in absurd (cc)
