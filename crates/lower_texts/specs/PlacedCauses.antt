-- Causes with their places among the bytes of a file. This project's own.
use Rattle.goal_answers.specs.declared.causes.Cause.TheVariants.{Bits, Cells, Depth, Fraction}
use Rattle.goal_answers.specs.declared.causes.Cause.TheVariants.{Nodes, Nonlinear, Rows}
use Rattle.goal_answers.specs.declared.causes.Cause.{Cause}
use Rattle.std.specs.Prelude.{min, ℕ}

-- The cause, with the end of the file as its place if the place is beyond this end. `bytes` is the
-- file's length.
abbrev pub placed : ℕ → Cause → Cause
placed bytes Depth = Depth
placed bytes Nodes = Nodes
placed bytes (Nonlinear span) = Nonlinear (record { from = min span.from bytes; to = span.to })
placed bytes (Cells count) = Cells count
placed bytes (Rows step count) = Rows step count
placed bytes Bits = Bits
placed bytes (Fraction broken) = Fraction broken
