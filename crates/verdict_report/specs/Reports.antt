-- The report of the answers on a file: a line for each procedure, each followed by a line for each
-- of its rankings, then the number of procedures. This project's own.
use Rattle.heyvl_acts.specs.Acts.{TypedProcedure}
use Rattle.std.specs.Prelude.{List, [], codes, decimal, length, ◌++◌, ◌∷◌, ℕ}
use Rattle.verdict_report.specs.Verdicts.{rank_text, verdict_text}
use Rattle.verdict_report.specs.declared.answers.Answer.{Answer}
use Rattle.verdict_report.specs.declared.answers.LoopAnswer.{LoopAnswer}
use Rattle.goal_answers.specs.declared.named_goals.NamedGoal.{NamedGoal}
use Prim.Native.Nat.{suc}

-- The line of the ranking of a loop, indented below the line of its procedure.
abbrev pub loop_line : List ℕ → List TypedProcedure → List NamedGoal → ℕ → LoopAnswer → List ℕ
loop_line bytes ps made p l = codes "  loop " ++ decimal l.number ++ codes ": "
    ++ rank_text bytes ps made p l.number l.rank ++ codes "\n"

-- The lines of the rankings of loops, in their order.
abbrev pub loop_lines : List ℕ → List TypedProcedure → List NamedGoal → ℕ → List LoopAnswer → List ℕ
loop_lines bytes ps made p [] = []
loop_lines bytes ps made p (l ∷ ls) = loop_line bytes ps made p l ++ loop_lines bytes ps made p ls

-- The lines of the procedure with the number `p`.
abbrev pub answer_lines : List ℕ → List TypedProcedure → List NamedGoal → ℕ → Answer → List ℕ
answer_lines bytes ps made p a = a.name ++ codes ": " ++ verdict_text bytes ps made p a.verdict
    ++ codes "\n" ++ loop_lines bytes ps made p a.loops.items

-- The lines of procedures, of which the first has the number `p`.
abbrev pub lines_from : List ℕ → List TypedProcedure → List NamedGoal → ℕ → List Answer → List ℕ
lines_from bytes ps made p [] = []
lines_from bytes ps made p (a ∷ rest) =
    answer_lines bytes ps made p a ++ lines_from bytes ps made (suc p) rest

-- The whole report: the lines of all procedures, and their number.
abbrev pub report_text : List ℕ → List TypedProcedure → List Answer → List NamedGoal → List ℕ
report_text bytes ps answers made =
    lines_from bytes ps made 0 answers ++ decimal (length answers) ++ codes " procedures\n"
