use Rattle.heyvl_print.proofs.Texts.{after_comma, name_text, plain_item_next}
use Rattle.heyvl_print.proofs.lines.print_names.Goals as goal
use Rattle.heyvl_print.specs.Pieces.{comma, word}
use Rattle.std.proofs.Common.{List, ◌++◌, ℕ}

pub loop-other-preserved : goal.loop-other-preserved
loop-other-preserved c =
    let x = rw c.as_bytes-in-loop-other.ensures at c.in_ok-write-3.ensures in
    plain_item_next (λ (x : List ℕ). comma ++ word x) c.in-Some.others.now c.loop-other.other-index c.other-item.result _ _ _ c.loop-other-test.true c.other-item.is c.loop-other.invariant (after_comma (word c.other-item.result) _ _ _ c.in_ok-write-2.ensures (name_text c.other-item.result _ _ x))
