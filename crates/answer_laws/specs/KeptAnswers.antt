-- Checking the certificates of a file yields again what was proved of it. This project's own.
use Rattle.std.specs.Prelude.{Bool, List, None, true, false, ◌≡◌, ℕ}
use Rattle.goal_answers.specs.declared.decisions.Decision.TheVariants.{Proved}
use Rattle.goal_answers.specs.declared.named_goals.NamedGoal.{NamedGoal}
use Rattle.goal_answers.specs.declared.trees.GoalCert.{GoalCert}
use Rattle.heyvl_acts.specs.Acts.{TypedProcedure}
use Rattle.heyvl_acts.specs.Rules.{Each, MeetsRules}
use Rattle.verdict_report.specs.VerdictsOn.{IsVerdictOn, IsVerdictOnLoop}
use Rattle.verdict_report.specs.declared.answers.Answer.{Answer}
use Rattle.verdict_report.specs.declared.answers.RankVerdict.TheVariants.{Ranked}
use Rattle.verdict_report.specs.declared.answers.Verdict.{Verdict}
use Rattle.verdict_report.specs.declared.answers.Verdict.TheVariants.{Conditional, NoBody}
use Rattle.verdict_report.specs.declared.answers.Verdict.TheVariants.{NotVerified, Unchecked}
use Rattle.verdict_report.specs.declared.answers.Verdict.TheVariants.{Unknown, Valid, Verified}
use Rattle.verify_core.specs.AnsweredProcedures.{AreAnswered}
use Rattle.verify_core.specs.CheckedAnswers.{IsCheckedFile}
use Rattle.verify_core.specs.GoalDecisions.{DecidedGoal}

-- Whether certificates can yield the verdict: there is no body, or all goals of the bound are
-- proved.
abbrev pub is_certifiable : Verdict → Bool
is_certifiable Verified = true
is_certifiable (Valid why) = true
is_certifiable (Conditional q) = true
is_certifiable NoBody = true
is_certifiable (NotVerified id s) = false
is_certifiable (Unknown id cause) = false
is_certifiable (Unchecked id miss) = false

-- If the goal is proved, it has a tree, which is at most 1,000 deep.
abbrev pub HasTreeWhereProved : DecidedGoal → Type 0
HasTreeWhereProved d = d.found ≡ Proved None → ⊥

-- If each proved goal of a bound has a tree, checking the certificates of the answers on a file
-- yields the same verdict on each procedure whose verdict certificates can yield.
abbrev pub VerdictsAreKept : Type 0
VerdictsAreKept = (ps : List TypedProcedure) (answers checked : List Answer) (made : List NamedGoal)
    (certs : List GoalCert) → Each (MeetsRules ps) ps → (are : AreAnswered ps answers made certs)
    → IsCheckedFile ps certs checked → Each (Each HasTreeWhereProved) are.table
    → (p : ℕ) (v : Verdict) → is_certifiable v ≡ true → IsVerdictOn answers p v
    → IsVerdictOn checked p v

-- If each proved goal of a ranking has a tree, checking the certificates of the answers on a file
-- ranks each loop again that was ranked.
abbrev pub RanksAreKept : Type 0
RanksAreKept = (ps : List TypedProcedure) (answers checked : List Answer) (made : List NamedGoal)
    (certs : List GoalCert) → Each (MeetsRules ps) ps → (are : AreAnswered ps answers made certs)
    → IsCheckedFile ps certs checked → Each (Each HasTreeWhereProved) are.ranks
    → (p n : ℕ) → IsVerdictOnLoop answers p n Ranked → IsVerdictOnLoop checked p n Ranked
