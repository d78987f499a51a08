-- The acts and formulas of small programs, and the requirements of the static rules on them.
use Rattle.std.proofs.Common.{◌≡◌, ◌≤◌, ◌<◌, ◌⊎◌, inl, inr, refl, ap, ◌∙◌, ℕ, leb, ◌==◌, ◌||◌, true, false, List, [], ◌∷◌, pos, arith}
use Rattle.std.proofs.lemmas.Bool.Decides.{leb_tells}
use Prim.Native.Nat.{zero, suc}
use Rattle.heyvl_num.specs.Rational.{Rational, ratio, zeroʳ, oneʳ, halfʳ, leqʳ, ◌+ʳ◌, ◌≤ʳ◌}
use Rattle.heyvl_num.specs.Value.{zeroᵛ, oneᵛ, leqᵛ, ◌≤ᵛ◌}
use Rattle.heyvl_num.specs.Value.Value.{finite}
use Rattle.heyvl_num.specs.WeightedSums.{total_weight}
use Rattle.heyvl_num.proofs.exported.Rationals.{+ʳ-zero}
use Rattle.heyvl_num.proofs.exported.Signs.{halves}
use Rattle.heyvl_num.proofs.exported.WeightedSums.{total_weight-empty, total_weight-cons}
use Rattle.heyvl_places.specs.declared.spans.Span.{Span}
use Rattle.heylo_formula.specs.Formula.{Form, Cond, Term}
use Rattle.heylo_formula.specs.Typing.{types_in}
use Rattle.heylo_formula.specs.declared.types.Ty.{Ty}
use Rattle.heyvl_acts.specs.Acts.{Act, Acts, Variable}
use Rattle.heyvl_acts.specs.WellTypedActs.{IsHeld}

abbrev pub nowhere : Span
nowhere = record { from = 0; to = 0 }

abbrev pub only : Act → Acts
only a = Acts.next a Acts.done

abbrev pub flag_named : ℕ → Variable
flag_named n = record { name = n ∷ []; ty = Ty.Bool }

abbrev pub zero_form : Form
zero_form = Form.number zeroᵛ

abbrev pub one_form : Form
one_form = Form.number oneᵛ

abbrev pub two_form : Form
two_form = Form.number (finite (ratio (pos 2) 1))

pub zero_held : (tys : List Ty) → IsHeld (types_in tys) zero_form
unfolding zeroᵛ zeroʳ ratio leqʳ
zero_held tys = (refl, refl)

pub one_held : (tys : List Ty) → IsHeld (types_in tys) one_form
unfolding oneᵛ oneʳ zeroʳ ratio leqʳ
one_held tys = (refl, refl)

pub two_held : (tys : List Ty) → IsHeld (types_in tys) two_form
unfolding zeroʳ ratio leqʳ
two_held tys = (refl, refl)

pub only_first : (y : ℕ) → ((0 == y) || leb (suc y) 1) ≡ ((0 == y) || false)
only_first zero = refl
only_first (suc y) = ap (λ b. (0 == suc y) || b) (go (leb_tells (suc (suc y)) 1))
  where
    go : ((leb (suc (suc y)) 1 ≡ true) × (suc (suc y) ≤ 1)) ⊎ ((leb (suc (suc y)) 1 ≡ false) × (1 < suc (suc y))) → leb (suc (suc y)) 1 ≡ false
    go (inl e) = absurd (omega (arith, e.1))
    go (inr e) = e.0

pub one_not_zero : oneᵛ ≤ᵛ zeroᵛ → ⊥
unfolding leqᵛ leqʳ zeroᵛ oneᵛ zeroʳ oneʳ ratio
one_not_zero h = let e = h.holds in absurd (cc)

-- ---- Fair draws

abbrev pub fair : Term → Term → List (Rational × Term)
fair t u = (halfʳ, t) ∷ (halfʳ, u) ∷ []

abbrev pub coin : List (Rational × Term)
coin = fair (Term.truth (Cond.constant true)) (Term.truth (Cond.constant false))

pub half_from_zero : zeroʳ ≤ʳ halfʳ
unfolding halfʳ zeroʳ ratio leqʳ
half_from_zero = record { holds = refl }

pub fair_weighs_one : (t u : Term) → total_weight (fair t u) ≡ oneʳ
fair_weighs_one t u = total_weight-cons halfʳ t _ ∙ (ap (λ w. halfʳ +ʳ w) (total_weight-cons halfʳ u [] ∙ (ap (λ w. halfʳ +ʳ w) (total_weight-empty Term) ∙ +ʳ-zero halfʳ)) ∙ halves)

abbrev pub half_form : Form
half_form = Form.number (finite halfʳ)

pub half_held : (tys : List Ty) → IsHeld (types_in tys) half_form
unfolding halfʳ zeroʳ ratio leqʳ
half_held tys = (refl, refl)
