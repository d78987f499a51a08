-- The exit statuses. This project's own.
use Rattle.command_rules.specs.declared.faults.Fault.TheVariants as faults
use Rattle.command_rules.specs.declared.faults.Fault.{Fault}
use Rattle.std.specs.List.{list_any}
use Rattle.std.specs.Prelude.{Bool, List, false, if◌then◌else◌, true, ◌||◌, ℕ}
use Rattle.verdict_report.specs.declared.answers.Answer.{Answer}
use Rattle.verdict_report.specs.declared.answers.LoopAnswer.{LoopAnswer}
use Rattle.verdict_report.specs.declared.answers.RankVerdict.TheVariants as rank
use Rattle.verdict_report.specs.declared.answers.RankVerdict.{RankVerdict}
use Rattle.verdict_report.specs.declared.answers.Verdict.TheVariants as verdict
use Rattle.verdict_report.specs.declared.answers.Verdict.{Verdict}

-- ---- Statuses of faults

-- The exit status of a fault, for a reply without answers.
abbrev pub fault_status : Fault → ℕ
fault_status faults.Nothing = 0
fault_status faults.Usage = 4
fault_status (faults.Read k) = 5
fault_status (faults.TooLong k) = 3
fault_status (faults.Source number place) = 3
fault_status (faults.Cert line) = 3
fault_status (faults.Script line) = 3
fault_status faults.NoProcedure = 3
fault_status faults.Shape = 3
fault_status (faults.NotProgram p) = 3
fault_status (faults.Run stopped) = 8
fault_status faults.Write = 6
fault_status faults.Memory = 7

-- ---- Statuses of answers

-- Whether the verdict is that a goal of the bound is false.
abbrev pub is_refuted : Verdict → Bool
is_refuted verdict.Verified = false
is_refuted (verdict.Valid reason) = false
is_refuted (verdict.Conditional q) = false
is_refuted (verdict.NotVerified id s) = true
is_refuted (verdict.Unknown id cause) = false
is_refuted verdict.NoBody = false
is_refuted (verdict.Unchecked id miss) = false

-- Whether the verdict is that the goal of the ranking is false.
abbrev pub is_rank_refuted : RankVerdict → Bool
is_rank_refuted rank.Ranked = false
is_rank_refuted (rank.NotRanked s) = true
is_rank_refuted (rank.Unknown cause) = false
is_rank_refuted (rank.Unchecked miss) = false

-- Whether the verdict leaves the bound open: a goal is undecided (`Unknown`) or has no accepted
-- certificate (`Unchecked`), or the procedure reaches one whose goals are not all proved or that is
-- no program (`Conditional`). `Valid` and `NoBody` leave nothing open.
abbrev pub is_open : Verdict → Bool
is_open verdict.Verified = false
is_open (verdict.Valid reason) = false
is_open (verdict.Conditional q) = true
is_open (verdict.NotVerified id s) = false
is_open (verdict.Unknown id cause) = true
is_open verdict.NoBody = false
is_open (verdict.Unchecked id miss) = true

-- Whether the verdict leaves the ranking open: its goal is undecided (`Unknown`) or has no accepted
-- certificate (`Unchecked`).
abbrev pub is_rank_open : RankVerdict → Bool
is_rank_open rank.Ranked = false
is_rank_open (rank.NotRanked s) = false
is_rank_open (rank.Unknown cause) = true
is_rank_open (rank.Unchecked miss) = true

-- Whether a goal of the procedure's bound or of one of its rankings is false.
abbrev pub refutes : Answer → Bool
refutes a = is_refuted a.verdict
    || list_any (λ (l : LoopAnswer). is_rank_refuted l.rank) a.loops.items

-- Whether the procedure's bound or one of its rankings is left open.
abbrev pub leaves_open : Answer → Bool
leaves_open a = is_open a.verdict
    || list_any (λ (l : LoopAnswer). is_rank_open l.rank) a.loops.items

-- 1 if some answer reports a goal as false, otherwise 2 if some answer leaves a bound or a ranking
-- open, otherwise 0. For a file with the verdicts `Verified` and `Conditional` it is 2.
abbrev pub answers_status : List Answer → ℕ
answers_status answers = if list_any refutes answers then 1 else if list_any leaves_open answers
    then 2 else 0
