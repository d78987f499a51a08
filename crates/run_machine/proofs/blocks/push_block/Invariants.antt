use Rattle.std.proofs.Common.{◌≡◌, ◌+◌, ◌++◌, length, drop}
use Rattle.heyvl_acts.specs.PlainActs.{acts_of}
use Rattle.heyvl_acts.specs.Places.{in_order}
use Rattle.run_machine.specs.Names.{numbered}
use Rattle.run_machine.proofs.BlockSizes.{size_from}
use Rattle.run_machine.proofs.blocks.push_block.Given as goal

abbrev pub invariant-loop-act : goal.invariant-loop-act
invariant-loop-act l = record {
  at : l.at + size_from l.acts l.act-index ≡ l.place + length (in_order (acts_of l.acts));
  items : l.items.items ++ numbered l.p l.at (acts_of (drop l.act-index l.acts)) ≡ l.initial.items.items ++ numbered l.p l.place (acts_of l.acts);
}
