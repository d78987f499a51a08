-- Values inside an interval.
use Rattle.std.proofs.Common.{◌≡◌, refl, ◌↔◌, subst}
use Rattle.std.specs.Prelude.{Option, Some, None}
use Rattle.heyvl_num.specs.Rational.{Rational}
use Rattle.linear_rows.specs.GreedyPoint.{End, Interval, IsInside}
use Rattle.interval_choice.specs.Sides.{IsWithin, IsPast}
use Rattle.interval_choice.specs.declared.sides.Side.TheVariants.{Low, High}

pub inside_past : (i : Interval) (v : Rational) → IsInside i v ↔ (IsPast Low i.low v × IsPast High i.high v)
inside_past i v = (λ h. (low i.low (λ e k. h.from_low e k), high i.high (λ e k. h.to_high e k)), λ p. record { from_low = λ e k. subst (λ o. IsPast Low o v) k p.0; to_high = λ e k. subst (λ o. IsPast High o v) k p.1 })
  where
    low : (o : Option End) → ((e : End) → o ≡ Some e → IsWithin Low e v) → IsPast Low o v
    low None h = tt
    low (Some e) h = h e refl

    high : (o : Option End) → ((e : End) → o ≡ Some e → IsWithin High e v) → IsPast High o v
    high None h = tt
    high (Some e) h = h e refl
