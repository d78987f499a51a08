-- Linear values: a sum of multiples of variables, and a constant. This project's own.
use Rattle.std.specs.Prelude.{◌≡◌, ℕ, ◌<◌, ◌==◌, ◌&&◌, ltb, Bool, true, false, List, [], ◌∷◌}
use Rattle.std.specs.Prelude.{if◌then◌else◌, Option}
use Rattle.heyvl_num.specs.Rational.{Rational, zeroʳ, oneʳ, ◌+ʳ◌, ◌*ʳ◌}
use Rattle.heyvl_num.specs.Value.{is_zeroʳ}
use Rattle.heylo_formula.specs.State.{Env, number_of}
use Rattle.linear_rows.specs.Numbers.{minus_oneʳ, fits}

-- Multiples of variables: pairs of a variable's number and its coefficient.
abbrev pub Terms : Type 0
Terms = List (ℕ × Rational)

-- A linear value: the sum of its terms, and a constant.
pub record Lin : Type 0 where
  pub terms : Terms
  pub rest : Rational

-- `unless_zero x c ts`: the term `c * x` followed by `ts`; only `ts` if `c` is 0.
abbrev pub unless_zero : ℕ → Rational → Terms → Terms
unless_zero x c ts = if is_zeroʳ c then ts else (x, c) ∷ ts

-- `more x c ts`: `ts` plus `c * x`, if the variables of `ts` increase.
abbrev pub more : ℕ → Rational → Terms → Terms
more x c [] = unless_zero x c []
more x c (t ∷ ts) = if x == t.0 then unless_zero x (t.1 +ʳ c) ts
    else (if ltb x t.0 then unless_zero x c (t ∷ ts) else (t ∷ more x c ts))

-- `merged us ts`: the sum of `us` and `ts`: the terms of `us` are added to `ts` one after the
-- other.
abbrev pub merged : Terms → Terms → Terms
merged [] ts = ts
merged (u ∷ us) ts = merged us (more u.0 u.1 ts)

-- `times w ts`: each coefficient of `ts` multiplied by `w`.
abbrev pub times : Rational → Terms → Terms
times w [] = []
times w (t ∷ ts) = (t.0, w *ʳ t.1) ∷ times w ts

-- `constant x`: the linear value that is `x` in each state.
abbrev pub constant : Rational → Lin
constant x = record { terms = []; rest = x }

-- `variable x`: the linear value that is the variable `x`.
abbrev pub variable : ℕ → Lin
variable x = record { terms = (x, oneʳ) ∷ []; rest = zeroʳ }

-- `plus a b`: the sum of two linear values.
unfoldable pub plus : Lin → Lin → Lin
plus a b = record { terms = merged b.terms a.terms; rest = a.rest +ʳ b.rest }

-- `scaled w a`: the linear value `w * a`. For 0 it is the constant 0, without terms.
unfoldable pub scaled : Rational → Lin → Lin
scaled w a = if is_zeroʳ w then constant zeroʳ
    else (record { terms = times w a.terms; rest = w *ʳ a.rest })

-- `minus a b`: the linear value `a - b`.
unfoldable pub minus : Lin → Lin → Lin
minus a b = plus a (scaled minus_oneʳ b)

-- `total ts s`: the value of the terms `ts` in the state `s`.
abbrev pub total : Terms → Env → Rational
total [] s = zeroʳ
total (t ∷ ts) s = (t.1 *ʳ number_of (s t.0)) +ʳ total ts s

-- `at a s`: the value of the linear value `a` in the state `s`.
abbrev pub at : Lin → Env → Rational
at a s = total a.terms s +ʳ a.rest

-- `all_fit ts`: the numerator and denominator of each coefficient are below 2^62 in absolute value.
abbrev pub all_fit : Terms → Bool
all_fit [] = true
all_fit (t ∷ ts) = fits t.1 && all_fit ts

-- `is_sized a`: the numerators and denominators of all numbers of `a` are below 2^62.
unfoldable pub is_sized : Lin → Bool
is_sized a = fits a.rest && all_fit a.terms

-- `IsAbove m ts`: each variable of `ts` is above `m`.
abbrev pub IsAbove : ℕ → Terms → Type 0
IsAbove m [] = Unit {0}
IsAbove m (t ∷ ts) = (m < t.0) × IsAbove m ts

-- `AreNormal ts`: the variables of `ts` increase, and no coefficient is 0.
abbrev pub AreNormal : Terms → Type 0
AreNormal [] = Unit {0}
AreNormal (t ∷ ts) = (is_zeroʳ t.1 ≡ false) × (IsAbove t.0 ts × AreNormal ts)

-- A linear value, or infinity (`None`).
abbrev pub Linear : Type 0
Linear = Option Lin
