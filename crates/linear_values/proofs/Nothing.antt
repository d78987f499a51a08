-- The constant 0.
use Rattle.std.proofs.Common.{◌≡◌, [], ◌∷◌, Some, refl, ap, ap₂, ◌∙◌, true, false, Bool, None, ◌&&◌}
use Rattle.heyvl_num.specs.Rational.{Rational, zeroʳ}
use Rattle.heyvl_num.specs.Value.{is_zeroʳ}
use Rattle.heyvl_num.proofs.exported.Values.{is_zero-is}
use Rattle.heyvl_num.proofs.exported.Rationals.{zero-+ʳ}
use Rattle.linear_values.specs.Kept.{IsKept}
use Rattle.linear_values.specs.Lin.{Lin, Linear, Terms, AreNormal, constant, merged, more, plus}
use Rattle.linear_values.proofs.MergedTerms.{passed}
use Rattle.linear_values.specs.Operator.{has_no_terms, is_nothing}

no_terms : (ts : Terms) → has_no_terms ts ≡ true → ts ≡ []
no_terms [] h = refl
no_terms (t ∷ ts) h = absurd (cc)

no_rest : (x : Rational) (b : Bool) → (b && is_zeroʳ x) ≡ true → (b ≡ true) × (x ≡ zeroʳ)
no_rest x true h = (refl, is_zero-is x h)
no_rest x false h = absurd (cc)

pub nothing_is : (x : Linear) → is_nothing x ≡ true → x ≡ Some (constant zeroʳ)
nothing_is (Some a) h = let e = no_rest a.rest (has_no_terms a.terms) h in ap₂ (λ ts r. Some (record { terms = ts; rest = r })) (no_terms a.terms e.0) e.1
nothing_is None h = absurd (cc)

pub alone : (us : Terms) → AreNormal us → merged us [] ≡ us
alone [] h = refl
alone (u ∷ us) h = ap (merged us) put ∙ passed u us [] h.1.0 ∙ ap (λ z. u ∷ z) (alone us h.1.1)
  where
    put : more u.0 u.1 [] ≡ u ∷ []
    put = rw h.0

pub plus_nothing : (b : Lin) → IsKept b → plus (constant zeroʳ) b ≡ b
unfolding plus
plus_nothing b h = ap₂ (λ ts r. record { terms = ts; rest = r }) (alone b.terms h.normal) (zero-+ʳ b.rest)
