-- Results of a step of stored configurations: outcomes, or the limit that the step exceeds. This
-- project's own.
use Rattle.std.specs.Prelude.{◌+◌, ℕ, Bool, false, ◌||◌, List, [], ◌∷◌, map, length, nat_lt}
use Rattle.std.specs.Prelude.{if◌then◌else◌}
use Rattle.heyvl_num.specs.Rational.{Rational, oneʳ}
use Rattle.heyvl_acts.specs.Acts.{TypedProcedure}
use Rattle.run_machine.specs.declared.configurations.Config as C
use Rattle.run_machine.specs.declared.configurations.Stepped.{Stepped}
use Rattle.run_machine.specs.declared.configurations.Stepped.TheVariants.{Next, Deep, Bits}
use Rattle.run_machine.specs.Configurations.{Config, Outcomes}
use Rattle.run_machine.specs.Names.{Lists, Stored, stored, config_of}

-- Stored configurations with their probabilities.
abbrev pub StoredOutcomes : Type 0
StoredOutcomes = List (Rational × Stored)

-- One stored configuration with the probability 1.
abbrev pub surely : Stored → StoredOutcomes
surely c = (oneʳ, c) ∷ []

-- An outcome of the program as a stored one.
abbrev pub stored_outcome : Rational × C.Config → Rational × Stored
stored_outcome x = (x.0, stored x.1)

-- Outcomes of the program as stored ones.
abbrev pub stored_outcomes : List (Rational × C.Config) → StoredOutcomes
stored_outcomes xs = map stored_outcome xs

-- The outcome of a run that a stored outcome represents: the same weight, with the configuration
-- that the stored configuration represents.
abbrev pub named_outcome : List TypedProcedure → Rational × Stored → Rational × Config
named_outcome ps x = (x.0, config_of ps x.1)

-- The outcomes of a run that stored outcomes represent, in their order.
abbrev pub named : List TypedProcedure → StoredOutcomes → Outcomes
named ps xs = map (named_outcome ps) xs

-- The number of values in the states of the callers.
abbrev pub list_values : List Lists → ℕ
list_values [] = 0
list_values (f ∷ fs) = length f.1 + list_values fs

-- The number of values in the state and in the states of the callers.
abbrev pub stored_values : Stored → ℕ
stored_values c = length c.state + list_values c.frames

-- Whether one of the outcomes has more than 512 values.
abbrev pub any_large : StoredOutcomes → Bool
any_large [] = false
any_large (x ∷ xs) = nat_lt 512 (stored_values x.1) || any_large xs

-- The result of a step: its outcomes, `deep` if one of them has more than 512 values, or `bits` if
-- a number overflows.
pub data Reply : Type 0 where
  next : StoredOutcomes → Reply
  deep : Reply
  bits : Reply

-- The result of the program's step, with stored outcomes.
abbrev pub reply_of : Stepped → Reply
reply_of (Next outcomes) = Reply.next (stored_outcomes outcomes.items)
reply_of Deep = Reply.deep
reply_of Bits = Reply.bits

-- The outcomes, or `deep` if one of them has more than 512 values.
abbrev pub kept_small : StoredOutcomes → Reply
kept_small xs = if any_large xs then Reply.deep else Reply.next xs

-- The outcomes within the limit of values if `fits`, otherwise `bits`.
abbrev pub replied : Bool → StoredOutcomes → Reply
replied fits xs = if fits then kept_small xs else Reply.bits
