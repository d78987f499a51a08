use Rattle.std.proofs.Common.{◌++◌, ap, ◌∙◌, map}
use Rattle.run_machine.specs.Names.{lists_of, stored}
use Rattle.run_machine.specs.StoredMoves.{out_items}
use Rattle.run_machine.proofs.Parts.{entered_is}
use Rattle.run_machine.proofs.call_steps.enter.Goals as goal

pub returns : goal.returns
returns c = entered_is (stored c.args.config.now) c.args.p c.args.place c.args.typed.now.procs.items c.args.q c.index-callee.result.now c.args.values.items c.in_ok-state.state.items c.push_outs.new.items.items c.push_body.new.items.items c.push.new.self.items c.in_ok-frames.frames.items c.push-2.new.self.items c.in_ok-waiting.field-0 c.in_ok-from_slice.field-0.items c.requires.there c.index-callee.ensures c.requires.small (c.in_ok-push_outs.ensures ∙ ap (λ l. l ++ out_items c.args.q c.index-callee.result.now.inputs c.index-callee.result.now.outputs) c.new-items.ensures.items) c.in_ok-push_body.ensures c.in_ok-push.ensures.items c.in_ok-state.ensures (c.in_ok-frames.ensures ∙ ap (map lists_of) c.deref.ensures.value) c.in_ok-waiting.ensures c.in_ok-push-2.ensures.items (c.in_ok-from_slice.ensures.items ∙ c.deref-2.ensures.value)
