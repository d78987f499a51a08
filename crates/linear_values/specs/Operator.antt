-- Tests and small functions of the program.
use Rattle.std.specs.Prelude.{ℤ, ◌&&◌, Bool, true, false, Option, Some, None, if◌then◌else◌, []}
use Rattle.std.specs.Prelude.{◌∷◌}
use Rattle.heyvl_num.specs.Rational.{Rational, ◌*ʳ◌}
use Rattle.heyvl_num.specs.Value.{is_zeroʳ}
use Rattle.linear_rows.specs.Terms.{is_narrow}
use Rattle.linear_values.specs.Lin.{Linear, Terms, times}
use Rattle.linear_rows.specs.Numbers.{minus_oneʳ, fits}

-- `has_no_terms ts`: the list `ts` is empty.
abbrev pub has_no_terms : Terms → Bool
has_no_terms [] = true
has_no_terms (t ∷ ts) = false

-- `is_nothing x`: the value `x` is the constant 0.
abbrev pub is_nothing : Linear → Bool
is_nothing (Some a) = has_no_terms a.terms && is_zeroʳ a.rest
is_nothing None = false

-- `small_product w c`: the product `w * c`, if it is below 2^62.
abbrev pub small_product : Rational → Rational → Option Rational
small_product w c = if fits (w *ʳ c) then Some (w *ʳ c) else None

-- `narrow_value z`: the integer `z`, if it is below 2^62 in absolute value.
abbrev pub narrow_value : ℤ → Option ℤ
narrow_value z = if is_narrow z then Some z else None

-- `signed_number downward c`: `-c` if `downward`, otherwise `c`.
abbrev pub signed_number : Bool → Rational → Rational
signed_number true c = minus_oneʳ *ʳ c
signed_number false c = c

-- `signed_terms downward ts`: `-ts` if `downward`, otherwise `ts`.
abbrev pub signed_terms : Bool → Terms → Terms
signed_terms true ts = times minus_oneʳ ts
signed_terms false ts = ts
