-- Tests of verdicts.
use Rattle.std.specs.Prelude.{ℕ, Bool, true, false, ◌&&◌, ◌==◌}
use Rattle.verdict_report.specs.declared.answers.LoopAnswer.{LoopAnswer}
use Rattle.verdict_report.specs.declared.answers.RankVerdict.{RankVerdict}
use Rattle.verdict_report.specs.declared.answers.RankVerdict.TheVariants as rank
use Rattle.verdict_report.specs.declared.answers.Verdict.{Verdict}
use Rattle.verdict_report.specs.declared.answers.Verdict.TheVariants as verdict

-- Whether the bound is verified.
abbrev pub says_verified : Verdict → Bool
says_verified verdict.Verified = true
says_verified (verdict.Valid why) = false
says_verified (verdict.Conditional q) = false
says_verified (verdict.NotVerified id s) = false
says_verified (verdict.Unknown id c) = false
says_verified verdict.NoBody = false
says_verified (verdict.Unchecked id miss) = false

-- Whether the ranking is proved.
abbrev pub says_ranked : RankVerdict → Bool
says_ranked rank.Ranked = true
says_ranked (rank.NotRanked s) = false
says_ranked (rank.Unknown c) = false
says_ranked (rank.Unchecked miss) = false

-- Whether the answer is on the loop `n`, and its ranking is proved.
abbrev pub ranks : ℕ → LoopAnswer → Bool
ranks n l = (l.number == n) && says_ranked l.rank
