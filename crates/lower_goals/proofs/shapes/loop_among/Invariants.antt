use Rattle.std.proofs.Common.{take}
use Rattle.heyvl_acts.specs.PlainActs.{acts_of}
use Rattle.lower_goals.specs.internal.Shapes.{HasNoLoop}
use Rattle.lower_goals.proofs.shapes.loop_among.Given as goal

-- None of the acts so far is a loop.
abbrev pub invariant-loop-place : goal.invariant-loop-place
invariant-loop-place l = HasNoLoop (acts_of (take l.place l.acts))
