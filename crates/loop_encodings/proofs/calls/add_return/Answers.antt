use Rattle.heyvl_acts.proofs.exported.PlainActsAre.{validate_act}
use Rattle.loop_encodings.proofs.CallSteps.{check_made, return_made}
use Rattle.loop_encodings.proofs.calls.add_return.Goals as goal

pub returns : goal.returns
returns c = return_made c.args.up c.args.span c.args.first c.args.callee.now c.outputs_of-outputs.result.now c.args.targets.now c.args.made.now.items _ _ _ _ _ _ c.requires.callee c.outputs_of-outputs.ensures c.in_ok-add_any.ensures c.in_ok-push.ensures.items (validate_act _ _) c.in_ok-push-2.ensures.items (check_made _ _ _ _ _ c.may.ensures c.in_ok-post.ensures) c.in_ok-add_gets.ensures
