-- Terms whose multiples have integer coefficients.
use Rattle.heyvl_num.specs.Rational.{Rational, ◌*ʳ◌}
use Rattle.linear_values.specs.Lin.{Terms}
use Rattle.std.specs.Prelude.{◌≡◌, [], ◌∷◌}

-- `AreWholeTimes w ts`: each coefficient of `ts`, times `w`, is an integer.
abbrev pub AreWholeTimes : Rational → Terms → Type 0
AreWholeTimes w [] = Unit {0}
AreWholeTimes w (t ∷ ts) = ((w *ʳ t.1).den ≡ 1) × AreWholeTimes w ts
