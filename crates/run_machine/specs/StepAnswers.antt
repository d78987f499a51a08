-- The promise on the program's step: it returns the stored step, which is the step of the
-- definition, it counts the decisions asked for, and its configurations satisfy the condition on
-- configurations. This project's own.
use Rattle.std.specs.Prelude.{◌≡◌, ◌+◌, ℕ, List, ◌∷◌}
use Rattle.heyvl_acts.specs.Acts.{Act, TypedProcedure}
use Rattle.heyvl_acts.specs.Rules.{Each}
use Rattle.run_machine.specs.declared.configurations.Stepped.{Stepped}
use Rattle.run_machine.specs.declared.configurations.Stepped.TheVariants.{Next, Deep, Bits}
use Rattle.run_machine.specs.BoundedStep.{answer_of, bounded_step}
use Rattle.run_machine.specs.ConfigConditions.{IsConfig}
use Rattle.run_machine.specs.Configurations.{Item}
use Rattle.run_machine.specs.Names.{Stored, stored, items_of, config_of}
use Rattle.run_machine.specs.Replies.{reply_of}
use Rattle.run_machine.specs.Step.{Decision}
use Rattle.run_machine.specs.StoredStep.{stored_reply}

-- `P` holds of each outcome's configuration.
abbrev pub EachNext : (Stored → Type 0) → Stepped → Type 0
EachNext P (Next outcomes) = Each (λ x. P (stored x.1)) outcomes.items
EachNext P Deep = Unit {0}
EachNext P Bits = Unit {0}

-- The number of decisions that the step of an act asks for, whether or not the scheduler makes one.
abbrev pub asked_by_act : Act → ℕ
asked_by_act (Act.any x up ty span) = 1
asked_by_act (Act.pick up a b span) = 1
asked_by_act other = 0

-- The number of decisions that the step of the first item asks for.
abbrev pub asked_by : List Item → ℕ
asked_by (Item.act a ∷ is) = asked_by_act a
asked_by (Item.out x ty ∷ is) = 1
asked_by other = 0

-- `stepped` is the result of the step of `c` under `d`: it is the stored reply and the bounded
-- step, its configurations count the decisions asked for, and they satisfy the condition on
-- configurations.
pub record IsStep (ps : List TypedProcedure) (c : Stored) (d : Decision) (stepped : Stepped)
    : Type 0 where
  pub reply : reply_of stepped ≡ stored_reply ps c d
  pub answer : answer_of ps stepped ≡ bounded_step ps (config_of ps c) d
  pub made : EachNext (λ e. e.made ≡ c.made + asked_by (items_of ps c.items)) stepped
  pub configs : EachNext (IsConfig ps) stepped
