-- The summary of the answers on a generated text: the numbers of bounds that are verified, not
-- verified, and neither. This project's own.
use Rattle.std.specs.List.{count_by}
use Rattle.std.specs.Prelude.{Bool, List, codes, decimal, false, true, ◌++◌, ℕ}
use Rattle.verdict_report.specs.declared.answers.Answer.{Answer}
use Rattle.verdict_report.specs.declared.answers.Verdict.TheVariants as verdicts
use Rattle.verdict_report.specs.declared.answers.Verdict.{Verdict}

-- Whether the bound is verified.
abbrev pub is_verified : Verdict → Bool
is_verified verdicts.Verified = true
is_verified (verdicts.Valid reason) = false
is_verified (verdicts.Conditional p) = false
is_verified (verdicts.NotVerified goal state) = false
is_verified (verdicts.Unknown goal cause) = false
is_verified verdicts.NoBody = false
is_verified (verdicts.Unchecked goal miss) = false

-- Whether the bound is not verified: it is false in a state.
abbrev pub is_not_verified : Verdict → Bool
is_not_verified verdicts.Verified = false
is_not_verified (verdicts.Valid reason) = false
is_not_verified (verdicts.Conditional p) = false
is_not_verified (verdicts.NotVerified goal state) = true
is_not_verified (verdicts.Unknown goal cause) = false
is_not_verified verdicts.NoBody = false
is_not_verified (verdicts.Unchecked goal miss) = false

-- Whether the verdict is neither `Verified` nor `NotVerified`.
abbrev pub is_other : Verdict → Bool
is_other verdicts.Verified = false
is_other (verdicts.Valid reason) = true
is_other (verdicts.Conditional p) = true
is_other (verdicts.NotVerified goal state) = false
is_other (verdicts.Unknown goal cause) = true
is_other verdicts.NoBody = true
is_other (verdicts.Unchecked goal miss) = true

-- The number of answers whose verdict passes `test`.
abbrev pub how_many : (Verdict → Bool) → List Answer → ℕ
how_many test answers = count_by (λ (a : Answer). test a.verdict) answers

-- `gen N: N procedures, A verified, B not verified, C other`
abbrev pub summary : ℕ → List Answer → List ℕ
summary n answers =
    codes "gen " ++ decimal n ++ codes ": " ++ decimal n ++ codes " procedures, "
    ++ decimal (how_many is_verified answers) ++ codes " verified, "
    ++ decimal (how_many is_not_verified answers) ++ codes " not verified, "
    ++ decimal (how_many is_other answers) ++ codes " other\n"
