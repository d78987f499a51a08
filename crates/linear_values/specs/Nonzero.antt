-- Terms and claims without zero coefficients.
use Rattle.linear_values.specs.Lin.{Terms}
use Rattle.linear_values.specs.Tightening.{Claim}
use Rattle.std.specs.Prelude.{◌≡◌, List, [], ◌∷◌, pos}

-- `AreNonzero ts`: no coefficient of `ts` is 0.
abbrev pub AreNonzero : Terms → Type 0
AreNonzero [] = Unit {0}
AreNonzero (t ∷ ts) = (t.1.num ≡ pos 0 → ⊥) × AreNonzero ts

-- `AllNonzero ks`: no coefficient in the claims `ks` is 0.
abbrev pub AllNonzero : List Claim → Type 0
AllNonzero [] = Unit {0}
AllNonzero (k ∷ ks) = AreNonzero k.left.terms × AllNonzero ks
