use Rattle.std.proofs.Common.{◌++◌, ◌+◌, ap, ◌∙◌}
use Rattle.heyvl_acts.specs.PlainActs.{acts_of}
use Rattle.run_machine.specs.Names.{stored, numbered}
use Rattle.run_machine.proofs.Parts.{turned_is}
use Rattle.run_machine.proofs.loop_steps.turned.Goals as goal

pub returns : goal.returns
returns c =
    let block = c.in_ok-push_block.ensures ∙ ap (λ l. l ++ numbered c.args.p (c.args.place + 1) (acts_of c.deref.result.now)) c.new-items.ensures.items ∙ ap (λ v. numbered c.args.p (c.args.place + 1) (acts_of v)) c.deref.ensures.value in
    let items = c.in_ok-extend_from_slice.ensures.items ∙ ap (λ l. c.push.new.self.items ++ l) c.rest_of.ensures in
    turned_is (stored c.args.config.now) (stored c.in_ok-next.next) c.args.p c.args.place c.args.one.now.number (acts_of c.args.one.now.body.items) c.push_block.new.items.items c.push.new.self.items c.extend_from_slice.new.self.items c.in_ok-turns.turns.items block c.in_ok-push.ensures.items items c.in_ok-next.ensures c.in_ok-turns.ensures
