use Rattle.std.proofs.Common.{◌≡◌, ◌+◌, drop}
use Rattle.heyvl_acts.specs.Acts.{join, type_list}
use Rattle.heyvl_acts.specs.PlainActs.{acts_of}
use Rattle.loop_encodings.specs.Encoding.{gets}
use Rattle.loop_encodings.specs.internal.Ready.{plain_variables}
use Rattle.loop_encodings.proofs.calls.add_gets.Given as goal

-- The acts so far and those that are left make the whole block.
abbrev pub invariant-loop-i : goal.invariant-loop-i
invariant-loop-i l = (l.x ≡ l.first + l.i) × (join (acts_of l.made.items) (gets l.span (drop l.i l.targets) (type_list (plain_variables (drop l.i l.all))) l.x) ≡ join (acts_of l.initial.made.items) (gets l.span l.targets (type_list (plain_variables l.all)) l.first))
