-- The certificates that `verify` writes are accepted by `check_all`. This project's own.
use Rattle.std.specs.List.{AllZip}
use Rattle.std.specs.Prelude.{◌≡◌, List, None, Some}
use Rattle.cert_text.specs.Certificates.{IsGrowingAfter, certificates_of}
use Rattle.goal_answers.specs.declared.trees.GoalCert.{GoalCert}
use Rattle.goal_answers.specs.declared.trees.Tree.{Tree}
use Rattle.heyvl_acts.specs.Acts.{TypedProcedure}
use Rattle.heyvl_acts.specs.Rules.{Each, MeetsRules}
use Rattle.goal_answers.specs.declared.decisions.Decision.TheVariants.{Proved}
use Rattle.verify_core.specs.CertifiedGoals.{CheckedGoal, IsCheckedRankTable, IsCheckedTable}
use Rattle.verify_core.specs.CertifiedGoals.{IsGoalAccepted}
use Rattle.verify_core.specs.GoalDecisions.{DecidedGoal, IsRankTable, IsTable, certified_in_file}

-- `IsServed certs d`: if the goal of `d` is proved with a tree, `certs` has a certificate of it.
abbrev pub IsServed : List GoalCert → DecidedGoal → Type 0
IsServed certs d = (t : Tree) → d.found ≡ Proved (Some t) → IsGoalAccepted certs d.goal

-- The certificates of the decided goals in `table` and `ranks` are in the order of their text, and
-- each goal that is proved with a tree has one.
pub record AreServed (table ranks : List (List DecidedGoal)) : Type 0 where
  pub order : IsGrowingAfter None (certificates_of (certified_in_file table ranks))
  pub accepted : Each (Each (IsServed (certified_in_file table ranks))) table
  pub ranked : Each (Each (IsServed (certified_in_file table ranks))) ranks

-- In a file that satisfies the rules, any decisions of the goals yield certificates as `AreServed`
-- demands.
abbrev pub ProofsAreAccepted : Type 0
ProofsAreAccepted = (ps : List TypedProcedure) (table ranks : List (List DecidedGoal))
    → Each (MeetsRules ps) ps → IsTable ps 0 ps table → IsRankTable ps 0 ps ranks
    → AreServed table ranks

-- If the goal is proved with a tree, its check succeeds.
abbrev pub IsNotMissed : DecidedGoal → CheckedGoal → Type 0
IsNotMissed d c = (t : Tree) → d.found ≡ Proved (Some t) → c.found ≡ None

-- `IsNotMissed` holds for each goal of a procedure, in the order of the goals.
abbrev pub NothingIsMissed : List DecidedGoal → List CheckedGoal → Type 0
NothingIsMissed ds cs = AllZip IsNotMissed ds cs

-- `IsNotMissed` holds for each goal of each procedure of a file.
abbrev pub NothingIsMissedThroughout : List (List DecidedGoal) → List (List CheckedGoal) → Type 0
NothingIsMissedThroughout table checked = AllZip NothingIsMissed table checked

-- In a file that satisfies the rules, each goal of a bound that decisions prove with a tree is
-- proved by their certificates.
abbrev pub ProvedGoalsAreAccepted : Type 0
ProvedGoalsAreAccepted = (ps : List TypedProcedure) (table ranks : List (List DecidedGoal))
    (checked : List (List CheckedGoal)) → Each (MeetsRules ps) ps → IsTable ps 0 ps table
    → IsRankTable ps 0 ps ranks → IsCheckedTable ps (certified_in_file table ranks) 0 ps checked
    → NothingIsMissedThroughout table checked

-- In a file that satisfies the rules, each goal of a ranking that decisions prove with a tree is
-- proved by their certificates.
abbrev pub ProvedRankingsAreAccepted : Type 0
ProvedRankingsAreAccepted = (ps : List TypedProcedure) (table ranks : List (List DecidedGoal))
    (checked : List (List CheckedGoal)) → Each (MeetsRules ps) ps → IsTable ps 0 ps table
    → IsRankTable ps 0 ps ranks → IsCheckedRankTable ps (certified_in_file table ranks) 0 ps checked
    → NothingIsMissedThroughout ranks checked

-- If the goal is not proved with a tree, its check does not succeed.
abbrev pub IsMissed : DecidedGoal → CheckedGoal → Type 0
IsMissed d c = ((t : Tree) → d.found ≡ Proved (Some t) → ⊥) → c.found ≡ None → ⊥

-- `IsMissed` holds for each goal of each procedure of a file.
abbrev pub OthersAreMissed : List (List DecidedGoal) → List (List CheckedGoal) → Type 0
OthersAreMissed table checked =
    AllZip (λ (ds : List DecidedGoal) (cs : List CheckedGoal). AllZip IsMissed ds cs) table checked

-- In a file that satisfies the rules, a goal of a bound or a ranking that decisions do not prove
-- with a tree is not proved by their certificates either.
abbrev pub OtherGoalsAreMissed : Type 0
OtherGoalsAreMissed = (ps : List TypedProcedure) (table ranks : List (List DecidedGoal))
    (checked checked_ranks : List (List CheckedGoal)) → Each (MeetsRules ps) ps
    → IsTable ps 0 ps table → IsRankTable ps 0 ps ranks
    → IsCheckedTable ps (certified_in_file table ranks) 0 ps checked
    → IsCheckedRankTable ps (certified_in_file table ranks) 0 ps checked_ranks
    → OthersAreMissed table checked × OthersAreMissed ranks checked_ranks
