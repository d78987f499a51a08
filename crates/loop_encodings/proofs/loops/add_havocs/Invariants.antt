use Rattle.std.proofs.Common.{◌≡◌, drop}
use Rattle.heyvl_acts.specs.Acts.{Acts, join, types_of}
use Rattle.heyvl_acts.specs.PlainActs.{acts_of, procedure_of}
use Rattle.loop_encodings.specs.Encoding.{havocs}
use Rattle.loop_encodings.proofs.loops.add_havocs.Given as goal

-- The acts so far and those that are left make the whole block.
abbrev pub invariant-loop-x : goal.invariant-loop-x
invariant-loop-x l = (rest : Acts) → join (acts_of l.made.items) (havocs l.procedure.co l.span (types_of (procedure_of l.procedure)) (drop l.x-index l.found) rest) ≡ join (acts_of l.initial.made.items) (havocs l.procedure.co l.span (types_of (procedure_of l.procedure)) l.found rest)
