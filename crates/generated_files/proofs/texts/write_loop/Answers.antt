use Rattle.generated_files.proofs.WrittenLines.{loop_written}
use Rattle.generated_files.proofs.texts.write_loop.Goals as goal

pub returns : goal.returns
returns c = loop_written c.args.i c.args.text.now.items _ _ _ _ c.in_ok-write_head.ensures c.in_ok-extend_from_slice.ensures.items c.in_ok-extend_from_slice-2.ensures.items c.in_ok-extend_from_slice-3.ensures.items
