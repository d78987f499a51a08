use Rattle.heyvl_print.proofs.Texts.{after_comma, plain_item_next}
use Rattle.heyvl_print.proofs.procedures.print_params.Goals as goal
use Rattle.heyvl_print.specs.Canonical.{param_pieces}
use Rattle.heyvl_print.specs.Pieces.{comma}
use Rattle.heyvl_syntax.specs.declared.procedures.Param.{Param}
use Rattle.std.proofs.Common.{◌++◌}

pub loop-other-preserved : goal.loop-other-preserved
loop-other-preserved c =
    plain_item_next (λ (x : Param). comma ++ param_pieces x) c.in-Some.others.now c.loop-other.other-index c.other-item.result _ _ _ c.loop-other-test.true c.other-item.is c.loop-other.invariant (after_comma (param_pieces c.other-item.result) _ _ _ c.in_ok-write.ensures c.in_ok-print_param-2.ensures)
