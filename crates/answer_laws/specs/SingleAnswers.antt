-- The outcomes of the goals of a file determine one verdict on each procedure. This project's own.
use Rattle.std.specs.Prelude.{◌≡◌, ℕ, List, None}
use Rattle.cert_text.specs.Certificates.{IsGrowingAfter, certificates_of}
use Rattle.goal_answers.specs.declared.causes.Cause.{Cause}
use Rattle.goal_answers.specs.declared.causes.Cause.TheVariants.{Depth, Nodes, Rows, Bits}
use Rattle.goal_answers.specs.declared.misses.Miss.{Miss}
use Rattle.goal_answers.specs.declared.misses.Miss.TheVariants.{Absent, Place}
use Rattle.goal_answers.specs.declared.trees.GoalCert.{GoalCert}
use Rattle.heyvl_acts.specs.Acts.{TypedProcedure}
use Rattle.heyvl_acts.specs.Rules.{Each}
use Rattle.region_split.specs.DecisionLaws.{IsOfLimits, IsSameCause}
use Rattle.verdict_report.specs.declared.answers.Verdict.{Verdict}
use Rattle.verdict_report.specs.declared.answers.Verdict.TheVariants as verdict
use Rattle.verify_core.specs.CertifiedGoals as certified
use Rattle.verify_core.specs.GoalDecisions as decided
use Rattle.verify_core.specs.Outcomes.{all_outcomes}
use Rattle.verify_core.specs.Verdicts.{IsVerdict}

-- A table of decisions determines one verdict on each procedure.
abbrev pub DecisionsGiveOneVerdict : Type 0
DecisionsGiveOneVerdict = (ps : List TypedProcedure) (table : List (List decided.DecidedGoal))
    → decided.IsTable ps 0 ps table → (p : ℕ) (v w : Verdict)
    → IsVerdict ps (all_outcomes decided.outcome_of table) p v
    → IsVerdict ps (all_outcomes decided.outcome_of table) p w → v ≡ w

-- A table of the results of checks determines one verdict on each procedure.
abbrev pub MissesGiveOneVerdict : Type 0
MissesGiveOneVerdict = (ps : List TypedProcedure) (certs : List GoalCert)
    (table : List (List certified.CheckedGoal)) → certified.IsCheckedTable ps certs 0 ps table
    → (p : ℕ) (v w : Verdict) → IsVerdict ps (all_outcomes certified.outcome_of table) p v
    → IsVerdict ps (all_outcomes certified.outcome_of table) p w → v ≡ w

-- The cause is that a form passes one of its limits.
abbrev pub IsLimitOfForm : Cause → Type 0
IsLimitOfForm Depth = Unit {0}
IsLimitOfForm Nodes = Unit {0}
IsLimitOfForm c = ⊥

-- Two causes agree. A form may pass both of its limits; the cause may then be either of them.
abbrev pub SaySameCause : Cause → Cause → Type 0
SaySameCause Depth d = IsLimitOfForm d
SaySameCause Nodes d = IsLimitOfForm d
SaySameCause (Rows m n) (Rows k l) = (m ≡ k) × (n ≡ l)
SaySameCause Bits Bits = Unit {0}
SaySameCause c d = IsSameCause c d

-- Two results of checks agree: there is no tree, or the tree is refused at the same place.
abbrev pub SaySameMiss : Miss → Miss → Type 0
SaySameMiss Absent Absent = Unit {0}
SaySameMiss (Place way) (Place other) = way.items ≡ other.items
SaySameMiss m n = ⊥

-- Two verdicts agree: on the same goal with the same state, with agreeing causes or results of
-- checks, for the same reason, or conditional on the same procedure.
abbrev pub SaySameVerdict : Verdict → Verdict → Type 0
SaySameVerdict verdict.NoBody verdict.NoBody = Unit {0}
SaySameVerdict (verdict.NotVerified i s) (verdict.NotVerified j r) = (i ≡ j) × (s.items ≡ r.items)
SaySameVerdict (verdict.Unknown i c) (verdict.Unknown j d) = (i ≡ j) × SaySameCause c d
SaySameVerdict (verdict.Unchecked i m) (verdict.Unchecked j n) = (i ≡ j) × SaySameMiss m n
SaySameVerdict (verdict.Valid why) (verdict.Valid other) = why ≡ other
SaySameVerdict (verdict.Conditional q) (verdict.Conditional r) = q ≡ r
SaySameVerdict verdict.Verified verdict.Verified = Unit {0}
SaySameVerdict v w = ⊥

-- The decision is not unknown for a limit of rows or of bits.
abbrev pub IsWithinLimits : decided.DecidedGoal → Type 0
IsWithinLimits d = IsOfLimits d.found → ⊥

-- If no decision is unknown for a limit of rows or of bits, two tables of decisions of a file's
-- goals determine verdicts that agree.
abbrev pub DecidedVerdictsAreUnique : Type 0
DecidedVerdictsAreUnique = (ps : List TypedProcedure) (t u : List (List decided.DecidedGoal))
    → decided.IsTable ps 0 ps t → decided.IsTable ps 0 ps u → Each (Each IsWithinLimits) t
    → Each (Each IsWithinLimits) u → (p : ℕ) (v w : Verdict)
    → IsVerdict ps (all_outcomes decided.outcome_of t) p v
    → IsVerdict ps (all_outcomes decided.outcome_of u) p w → SaySameVerdict v w

-- If the certificates are in the order of their text, two tables of the results of checks determine
-- verdicts that agree.
abbrev pub CheckedVerdictsAreUnique : Type 0
CheckedVerdictsAreUnique = (ps : List TypedProcedure) (certs : List GoalCert)
    (t u : List (List certified.CheckedGoal)) → IsGrowingAfter None (certificates_of certs)
    → certified.IsCheckedTable ps certs 0 ps t → certified.IsCheckedTable ps certs 0 ps u
    → (p : ℕ) (v w : Verdict) → IsVerdict ps (all_outcomes certified.outcome_of t) p v
    → IsVerdict ps (all_outcomes certified.outcome_of u) p w → SaySameVerdict v w
