use Rattle.std.proofs.Common.{◌≡◌, ◌+◌, drop}
use Rattle.heyvl_acts.specs.Acts.{Acts, join}
use Rattle.heyvl_acts.specs.PlainActs.{acts_of, terms_of}
use Rattle.loop_encodings.specs.Encoding.{sets}
use Rattle.loop_encodings.proofs.calls.add_sets.Given as goal

-- The acts so far and those that are left make the whole block.
abbrev pub invariant-loop-argument : goal.invariant-loop-argument
invariant-loop-argument l = (l.x ≡ l.first + l.argument-index) × ((rest : Acts) → join (acts_of l.made.items) (sets l.span l.x (terms_of (drop l.argument-index l.arguments)) rest) ≡ join (acts_of l.initial.made.items) (sets l.span l.first (terms_of l.arguments) rest))
