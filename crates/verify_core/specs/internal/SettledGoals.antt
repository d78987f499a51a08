-- Goals with their outcomes, by decisions or by certificates.
use Rattle.std.specs.Prelude.{◌≡◌, List, [], ◌∷◌, ◌++◌, None, Option, map}
use Rattle.cert_text.specs.Certificates.{IsGrowingAfter, certificates_of}
use Rattle.goal_answers.specs.declared.decisions.Decision.{Decision}
use Rattle.goal_answers.specs.declared.misses.Miss.{Miss}
use Rattle.goal_answers.specs.declared.named_goals.NamedGoal.{NamedGoal}
use Rattle.goal_answers.specs.declared.trees.GoalCert.{GoalCert}
use Rattle.heylo_formula.specs.Goals.{goal_of}
use Rattle.heylo_formula.specs.declared.goals.Made.{Made}
use Rattle.heylo_formula.specs.declared.goals.Made.TheVariants as made
use Rattle.heyvl_acts.specs.Rules.{Each}
use Rattle.region_split.specs.Meanings.{Tells}
use Rattle.verify_core.specs.CertifiedGoals as checked
use Rattle.verify_core.specs.GoalDecisions as decided
use Rattle.verify_core.specs.Outcomes.{outcomes}
use Rattle.verify_core.specs.Tables.{GoalWith}
use Rattle.verify_core.specs.declared.outcomes.GoalOutcome.{GoalOutcome}
use Rattle.verify_core.specs.declared.outcomes.Outcome.{Outcome}
use Rattle.verify_core.specs.declared.settled_goals.Way.{Way}
use Rattle.verify_core.specs.declared.settled_goals.Way.TheVariants.{Decide, Check}
use Rattle.verify_core.specs.internal.Decidable.{CanDecide}

-- The meaning of the decision for the goal's states. If there is no goal, it has none.
abbrev pub TellsOf : Made → Decision → Type 0
TellsOf (made.Goal g) d = Tells (goal_of g) d
TellsOf made.Depth d = Unit {0}
TellsOf made.Nodes d = Unit {0}

-- ---- Ways to settle a goal

-- A decision of a goal, or the result of its check.
abbrev pub Finding : Way → Type 0
Finding Decide = Decision
Finding (Check certs) = Option Miss

-- `Finds way g finding`: `finding` is a decision of the goal `g`, or the result of its check.
abbrev pub Finds : (way : Way) → NamedGoal → Finding way → Type 0
Finds Decide g d = decided.IsDecisionOf g.made d × TellsOf g.made d
Finds (Check certs) g miss = checked.IsMissOf certs.now g miss

abbrev pub outcome_by : (way : Way) → Finding way → Outcome
outcome_by Decide d = decided.outcome_of d
outcome_by (Check certs) miss = checked.outcome_of miss

-- The certificates of decided goals. Checking by certificates yields none.
abbrev pub certificates_by : (way : Way) → List (GoalWith (Finding way)) → List GoalCert
certificates_by Decide ds = decided.certificates ds
certificates_by (Check certs) cs = []

-- What `settle` requires of a goal that it decides, or of the certificates by which it checks one.
abbrev pub CanSettle : Way → NamedGoal → Type 0
CanSettle Decide g = CanDecide g.made
CanSettle (Check certs) g = IsGrowingAfter None (certificates_of certs.now)

-- ---- Goals

-- `o` is an outcome of the goal `g`. Its certificate, if it has one, is appended to `before`.
pub record IsSettled (way : Way) (g : NamedGoal) (o : Outcome) (before after : List GoalCert)
    : Type 0 where
  pub found : Finding way
  pub finds : Finds way g found
  pub outcome_is : o ≡ outcome_by way found
  pub certs_are : after ≡ before ++ certificates_by way ((record { goal = g; found = found }) ∷ [])

-- `o` is the outcome of checking the goal `g` by `certs`.
pub record IsChecked (certs : List GoalCert) (g : NamedGoal) (o : Outcome) : Type 0 where
  pub miss : Option Miss
  pub is_miss : checked.IsMissOf certs g miss
  pub outcome_is : o ≡ checked.outcome_of miss

-- `os` are the goals `gs` with their outcomes. Their certificates are appended to `before`.
pub record AreSettled (way : Way) (gs : List NamedGoal) (os : List GoalOutcome)
    (before after : List GoalCert) : Type 0 where
  pub row : List (GoalWith (Finding way))
  pub goals_are : map (λ (g : GoalWith (Finding way)). g.goal) row ≡ gs
  pub finds : Each (λ (g : GoalWith (Finding way)). Finds way g.goal g.found) row
  pub outcomes_are : os ≡ outcomes (outcome_by way) row
  pub certs_are : after ≡ before ++ certificates_by way row
