-- Laws of stored configurations: their steps represent those of the definition of runs. This
-- project's own.
use Rattle.std.specs.Prelude.{◌≡◌, ◌+◌, ℕ, List}
use Rattle.heyvl_num.specs.Rational.{Rational, zeroʳ, ◌≤ʳ◌}
use Rattle.heylo_formula.specs.declared.values.Val.{Val}
use Rattle.heyvl_acts.specs.Acts.{TypedProcedure, procedure_at}
use Rattle.heyvl_acts.specs.Rules.{Each, MeetsRules}
use Rattle.run_machine.specs.Bound.{IsState}
use Rattle.run_machine.specs.ConfigConditions.{IsConfig, ReachesPrograms}
use Rattle.run_machine.specs.Configurations.{begin}
use Rattle.run_machine.specs.Names.{Stored, config_of, items_of}
use Rattle.run_machine.specs.Replies.{named}
use Rattle.run_machine.specs.Step.{Decision, step}
use Rattle.run_machine.specs.StepAnswers.{asked_by}
use Rattle.run_machine.specs.StoredStep.{stored_begin, stored_step}

-- A weighted stored configuration: its weight is not negative, `made` decisions were asked for, and
-- it satisfies the condition on configurations.
pub record Comes (ps : List TypedProcedure) (made : ℕ) (x : Rational × Stored) : Type 0 where
  pub weight : zeroʳ ≤ʳ x.0
  pub asks : x.1.made ≡ made
  pub config : IsConfig ps x.1

-- `MeansStep ps c d`: the outcomes of the step of the stored configuration `c` under the decision
-- `d` represent those of the step of the configuration that `c` represents. They satisfy the
-- condition on configurations and count the decisions asked for.
pub record MeansStep (ps : List TypedProcedure) (c : Stored) (d : Decision) : Type 0 where
  pub steps : named ps (stored_step ps c d) ≡ step ps (config_of ps c) d
  pub comes : Each (Comes ps (c.made + asked_by (items_of ps c.items))) (stored_step ps c d)

-- In a file that satisfies the static rules, `MeansStep` holds for each configuration that
-- satisfies the condition.
abbrev pub StoredStepsAreMeant : Type 0
StoredStepsAreMeant = (ps : List TypedProcedure) → Each (MeetsRules ps) ps → (c : Stored)
    → IsConfig ps c → (d : Decision) → MeansStep ps c d

-- `MeansBegin ps p s`: the first stored configuration of the procedure with the number `p` in the
-- state `s` represents the first configuration of its runs. It satisfies the condition on
-- configurations if the procedure reaches only programs and `s` has the right types.
pub record MeansBegin (ps : List TypedProcedure) (p : ℕ) (s : List Val) : Type 0 where
  pub first : config_of ps (stored_begin ps p s) ≡ begin ps p s
  pub config : ReachesPrograms ps p → IsState (procedure_at ps p) s
      → IsConfig ps (stored_begin ps p s)

-- `MeansBegin` holds for each procedure and state.
abbrev pub StoredBeginningsAreMeant : Type 0
StoredBeginningsAreMeant = (ps : List TypedProcedure) (p : ℕ) (s : List Val) → MeansBegin ps p s
