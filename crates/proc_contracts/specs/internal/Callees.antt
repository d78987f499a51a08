-- The procedures that acts call, each as often as it is called.
use Rattle.std.specs.Prelude.{ℕ, List, [], ◌∷◌}
use Rattle.heyvl_acts.specs.Acts.{Act}

-- The procedures that the acts of a list call, without the acts inside them, in their order.
abbrev pub callees : List Act → List ℕ
callees [] = []
callees (Act.call xs q es span ∷ rest) = q ∷ callees rest
callees (a ∷ rest) = callees rest
