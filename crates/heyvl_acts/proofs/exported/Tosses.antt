-- For the proofs of other crates: the weights of a toss in a typed state are nonnegative and have
-- the sum 1.
use Rattle.std.proofs.Common.{◌≡◌, ℕ, refl, ap, ◌∙◌, true, false, []}
use Rattle.heyvl_num.specs.Rational.{Rational, zeroʳ, oneʳ, ◌+ʳ◌, ◌-ʳ◌, ◌≤ʳ◌}
use Rattle.heyvl_num.specs.Value.{Value, zeroᵛ, oneᵛ, ◌≤ᵛ◌}
use Rattle.heyvl_num.specs.Value.Value.{finite, infinite}
use Rattle.heyvl_num.specs.ValueOperators.{minᵛ}
use Rattle.heyvl_num.specs.WeightedSums.{total_weight}
use Rattle.heyvl_num.proofs.exported.Rationals.{+ʳ_comm, +ʳ-zero, ≤ʳ_refl}
use Rattle.heyvl_num.proofs.exported.Signs.{difference_nonnegative, -ʳ-+ʳ}
use Rattle.heyvl_num.proofs.exported.Values.{nonnegative_finite, finite_order, infinite_above, zero-≤ᵛ-one}
use Rattle.heyvl_num.proofs.exported.Operators.{min_greatest, min_below_right}
use Rattle.heyvl_num.proofs.exported.WeightedSums.{total_weight-empty, total_weight-cons}
use Rattle.heylo_formula.specs.Choices.{Choices, left, right}
use Rattle.heylo_formula.specs.declared.values.Val.TheVariants.{Truth}
use Rattle.heylo_formula.specs.Formula.{Form, Cond, Term}
use Rattle.heylo_formula.specs.Meaning.{value}
use Rattle.heylo_formula.specs.Operators.{finite_part}
use Rattle.heylo_formula.specs.State.{Env}
use Rattle.heylo_formula.specs.Typing.{Types, HasTypes}
use Rattle.heylo_formula.specs.declared.types.Ty.{Ty}
use Rattle.heylo_formula.proofs.exported.TypedTerms.{nonnegative_value}
use Rattle.heyvl_acts.specs.Tosses.{toss_weight, flip_parts, toss_parts}
use Rattle.heyvl_acts.specs.WellTypedActs.{IsHeld, IsProbability, PartsFit}

at_most_one : (v : Value) → v ≤ᵛ oneᵛ → finite_part v ≤ʳ oneʳ
unfolding oneᵛ
at_most_one (finite x) h = finite_order x oneʳ h
at_most_one infinite h = absurd (infinite_above oneʳ h)

from_zero : (v : Value) → zeroᵛ ≤ᵛ v → zeroʳ ≤ʳ finite_part v
from_zero (finite x) h = nonnegative_finite x h
from_zero infinite h = ≤ʳ_refl zeroʳ

pub weight_small : (f : Form) (s : Env) → toss_weight f s ≤ʳ oneʳ
weight_small f s = at_most_one (minᵛ (value f s Choices.stop) oneᵛ) (min_below_right (value f s Choices.stop) oneᵛ)

pub weight_held : (types : Types) (f : Form) (s : Env) → IsHeld types f → HasTypes types s → zeroʳ ≤ʳ toss_weight f s
weight_held types f s h e = from_zero (minᵛ (value f s Choices.stop) oneᵛ) (min_greatest _ _ _ (nonnegative_value types f s Choices.stop h.0 e) zero-≤ᵛ-one)

pub toss_fit : (types : Types) (x : ℕ) (f : Form) (s : Env) → types x ≡ Ty.Bool → IsProbability types f → HasTypes types s → PartsFit types x (toss_parts f s)
toss_fit types x f s b h e = ((weight_held types f s h.0 e, (b, refl)), (((difference_nonnegative (toss_weight f s) oneʳ).1 (weight_small f s), (b, refl)), tt))

pub flips_weigh : (w : Rational) → total_weight (flip_parts w) ≡ oneʳ
flips_weigh w = total_weight-cons w (Term.truth (Cond.constant true)) _ ∙ (ap (λ u. w +ʳ u) (total_weight-cons (oneʳ -ʳ w) (Term.truth (Cond.constant false)) [] ∙ (ap (λ u. (oneʳ -ʳ w) +ʳ u) (total_weight-empty Term) ∙ +ʳ-zero (oneʳ -ʳ w))) ∙ (+ʳ_comm w (oneʳ -ʳ w) ∙ -ʳ-+ʳ oneʳ w))

-- The choices of a draw, as choices of a toss.
abbrev pub before_products : Choices → Choices
before_products c = Choices.choose (Truth false) (Choices.choose (Truth false) Choices.stop (left c)) (Choices.choose (Truth false) Choices.stop (right c))

pub one_finite : infinite ≤ᵛ oneᵛ → ⊥
unfolding oneᵛ
one_finite h = infinite_above oneʳ h
