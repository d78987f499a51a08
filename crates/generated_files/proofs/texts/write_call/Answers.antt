use Rattle.generated_files.proofs.WrittenLines.{call_written}
use Rattle.generated_files.proofs.texts.write_call.Goals as goal

pub returns : goal.returns
returns c = call_written c.args.i c.args.text.now.items _ _ _ _ c.in_ok-write_head.ensures c.in_ok-extend_from_slice.ensures.items c.in_ok-write_name.ensures c.in_ok-extend_from_slice-2.ensures.items
