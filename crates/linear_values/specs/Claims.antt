-- Claims that hold in a state.
use Rattle.std.specs.Prelude.{◌≡◌, List, [], ◌∷◌, true}
use Rattle.heylo_formula.specs.State.{Env}
use Rattle.linear_values.specs.Lin.{at}
use Rattle.linear_rows.specs.Numbers.{is_negative}
use Rattle.linear_values.specs.Tightening.{Claim}

-- `IsClaimed s k`: the claim `k` holds in the state `s`.
pub record IsClaimed (s : Env) (k : Claim) : Type 0 where
  pub claimed : is_negative (at k.left s) k.strict ≡ true

-- `AllClaimed s ks`: each of the claims `ks` holds in the state `s`.
abbrev pub AllClaimed : Env → List Claim → Type 0
AllClaimed s [] = Unit {0}
AllClaimed s (k ∷ ks) = IsClaimed s k × AllClaimed s ks
