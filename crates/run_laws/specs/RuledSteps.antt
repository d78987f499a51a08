-- What each step preserves in a file that satisfies the static rules. This project's own.
use Rattle.std.specs.Prelude.{◌≡◌, ℕ, List, ◌∷◌}
use Rattle.heyvl_num.specs.Rational.{oneʳ}
use Rattle.heyvl_num.specs.WeightedSums.{total_weight}
use Rattle.heylo_formula.specs.declared.values.Val.{Val}
use Rattle.heyvl_acts.specs.Acts.{TypedProcedure, procedure_at}
use Rattle.heyvl_acts.specs.Rules.{Each, MeetsRules}
use Rattle.run_machine.specs.Bound.{IsState}
use Rattle.run_machine.specs.Configurations.{Item, Config, begin}
use Rattle.run_machine.specs.Step.{Decision, step}
use Rattle.run_laws.specs.EachOutcome.{EachOutcome}
use Rattle.run_laws.specs.RuledConfigurations.{ConfigFits, Follows}

-- The first configuration of a run satisfies the static rules.
abbrev pub BeginningsFit : Type 0
BeginningsFit = (ps : List TypedProcedure) (p : ℕ) → Each (MeetsRules ps) ps → (s : List Val)
    → IsState (procedure_at ps p) s → ConfigFits ps p (begin ps p s)

-- Each outcome of a step satisfies the static rules, no weight is negative, and no reward
-- decreases.
abbrev pub StepsKeepTheRules : Type 0
StepsKeepTheRules = (ps : List TypedProcedure) (p : ℕ) → Each (MeetsRules ps) ps → (c : Config)
    → ConfigFits ps p c → (d : Decision) → EachOutcome (Follows ps p c.reward) (step ps c d)

-- The weights of a step have the sum 1, if the run has not terminated.
abbrev pub RuledStepsWeighOne : Type 0
RuledStepsWeighOne = (ps : List TypedProcedure) (p : ℕ) → Each (MeetsRules ps) ps → (c : Config)
    → ConfigFits ps p c → (i : Item) (is : List Item) → c.items ≡ i ∷ is → (d : Decision)
    → total_weight (step ps c d) ≡ oneʳ
