-- Fractions are equal if their numerators and denominators are.
use Rattle.std.proofs.Common.{◌≡◌, ℕ, ◌<◌, List, refl, sym, ap₂, ◌∙◌, Bool, true, false}
use Rattle.std.specs.Prelude.{pos, not, ◌&&◌}
use Rattle.std.specs.Int.RustNames.{unsigned_abs}
use Rattle.std.specs.Ordering.{int_eq}
use Rattle.std.proofs.lemmas.Bool.Decides.{Decides-int_eq}
use Rattle.std.proofs.Math.Bridge.{le_prop}
use Rattle.std.proofs.Math.Nat.{ℕ_set}
use mathlib.Core.HLevel.{is_prop→PathP}
use Rattle.heyvl_num.specs.Gcd.{gcd}
use Rattle.heyvl_num.specs.Rational.{Rational}
use Rattle.linear_values.specs.Lin.{Lin}

abbrev lin : List (ℕ × Rational) → Rational → Lin
lin ts r = record { terms = ts; rest = r }

same_number : (x y : Rational) → x.num ≡ y.num → x.den ≡ y.den → x ≡ y
same_number x y p q = λ i. record { num = p i; den = q i; positive = is_prop→PathP (λ i. 0 < q i) (λ i. le_prop) x.positive y.positive i; lowest = is_prop→PathP (λ i. gcd (unsigned_abs (p i)) (q i) ≡ 1) (λ i. ℕ_set _ _) x.lowest y.lowest i }

same_parts : (x y : Rational) → (int_eq x.num y.num && int_eq (pos x.den) (pos y.den)) ≡ true → x ≡ y
same_parts x y e = go (int_eq x.num y.num) refl (int_eq (pos x.den) (pos y.den)) refl e
  where
    go : (a : Bool) → int_eq x.num y.num ≡ a → (b : Bool) → int_eq (pos x.den) (pos y.den) ≡ b → (a && b) ≡ true → x ≡ y
    go true f true h k =
        let m : x.num ≡ y.num = (Decides-int_eq x.num y.num).0 f in
        let n : pos x.den ≡ pos y.den = (Decides-int_eq (pos x.den) (pos y.den)).0 h in
        let d : x.den ≡ y.den = cc in
        same_number x y m d
    go true f false h k = absurd (cc)
    go false f b h k = absurd (cc)

pub same_where : (x y : Rational) (b : Bool) → b ≡ (int_eq x.num y.num && int_eq (pos x.den) (pos y.den)) → b ≡ true → x ≡ y
same_where x y b e f = same_parts x y (sym e ∙ f)

pub same_unless : (x y : Rational) → not (int_eq x.num y.num && int_eq (pos x.den) (pos y.den)) ≡ false → x ≡ y
same_unless x y e = go (int_eq x.num y.num && int_eq (pos x.den) (pos y.den)) refl e
  where
    go : (b : Bool) → (int_eq x.num y.num && int_eq (pos x.den) (pos y.den)) ≡ b → not b ≡ false → x ≡ y
    go true f k = same_parts x y f
    go false f k = absurd (cc)

pub same_value : (xs ys : List (ℕ × Rational)) (x y : Rational) → xs ≡ ys → x ≡ y → lin xs x ≡ lin ys y
same_value xs ys x y e f = ap₂ lin e f
