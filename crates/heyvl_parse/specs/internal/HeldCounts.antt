-- The counts that the program keeps while it goes through the tokens, and the counts of the load.
use Rattle.heyvl_parse.specs.declared.counts.Counts.{Counts}
use Rattle.heyvl_parse.specs.declared.effects.Effect.TheVariants as effects
use Rattle.heyvl_parse.specs.declared.effects.Effect.{Effect}
use Rattle.heyvl_syntax.specs.Load as loads
use Rattle.std.specs.Prelude.{List, ◌∷◌, ◌≡◌, ℕ}

-- The effect of the definitions that an `Effect` of the program denotes.
abbrev pub effect_of : Effect → loads.Effect
effect_of effects.Opens = loads.opens
effect_of effects.Closes = loads.closes
effect_of effects.Adds = loads.adds
effect_of effects.Resets = loads.resets
effect_of effects.Keeps = loads.keeps

-- The counts as a list, the innermost first.
abbrev pub counts_of : Counts → List ℕ
counts_of c = c.innermost ∷ c.outer.items

-- The `load` of `c` is the load of its counts.
abbrev pub IsCounted : Counts → Type 0
IsCounted c = c.load ≡ loads.load (counts_of c)
