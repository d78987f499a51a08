use Rattle.std.proofs.Common.{◌≡◌, ◌+◌, drop}
use Rattle.heyvl_acts.specs.Acts.{Acts, join, type_list}
use Rattle.heyvl_acts.specs.PlainActs.{acts_of}
use Rattle.loop_encodings.specs.Encoding.{any_block}
use Rattle.loop_encodings.specs.internal.Ready.{plain_variables}
use Rattle.loop_encodings.proofs.calls.add_any.Given as goal

-- The acts so far and those that are left make the whole block.
abbrev pub invariant-loop-variable : goal.invariant-loop-variable
invariant-loop-variable l = (l.x ≡ l.first + l.variable-index) × ((rest : Acts) → join (acts_of l.made.items) (any_block l.up l.span l.x (type_list (plain_variables (drop l.variable-index l.all))) rest) ≡ join (acts_of l.initial.made.items) (any_block l.up l.span l.first (type_list (plain_variables l.all)) rest))
