use Rattle.generated_files.proofs.WrittenLines.{coin_written}
use Rattle.generated_files.proofs.texts.write_coin.Goals as goal

pub returns : goal.returns
returns c = coin_written c.args.i c.args.bound.now c.args.text.now.items _ _ _ _ c.in_ok-write_head.ensures c.in_ok-extend_from_slice.ensures.items c.in_ok-extend_from_slice-2.ensures.items c.in_ok-extend_from_slice-3.ensures.items
