use Rattle.std.proofs.Common.{ap, ◌∙◌, arith, length, map}
use Rattle.heyvl_acts.specs.PlainActs.{procedure_of}
use Rattle.run_machine.specs.Configurations.{outputs_of, set_all}
use Rattle.run_machine.specs.Names.{lists_of, stored}
use Rattle.run_machine.specs.Replies.{kept_small, surely}
use Rattle.run_machine.proofs.Moves.{if_ok}
use Rattle.run_machine.proofs.Parts.{callee_long, resumed_is}
use Rattle.run_machine.proofs.call_steps.back_step.Goals as goal

pub take_outputs-requires-clause-long : goal.take_outputs-requires-clause-long
take_outputs-requires-clause-long c = let h = callee_long c.args.typed.now.procs.items c.args.q c.index.result.now (length c.args.config.now.state.items) c.requires.there c.index.ensures c.requires.small c.requires.state in let e = ap length c.deref-in-Some.ensures.value in omega (arith, h, e)

pub returns-in_ok-from_slice-in-Some : goal.returns-in_ok-from_slice-in-Some
returns-in_ok-from_slice-in-Some c = if_ok c.for_sure.result _ _ (λ x h fs f e. h ∙ ap (λ n. kept_small (surely n)) (resumed_is (stored c.args.config.now) c.args.targets.now c.args.typed.now.procs.items c.args.q c.index.result.now fs f c.args.config.now.frames.items c.in_ok-frames.frames.items c.pop.new.self.items c.in-Some.frame c.take_outputs.new.state.items c.in_ok-from_slice-in-Some.field-0.items c.requires.there c.index.ensures e (c.in_ok-frames.ensures ∙ ap (λ l. map lists_of l) c.deref.ensures.value) c.in-Some.ensures.items (c.take_outputs.ensures ∙ ap (λ s. set_all c.args.targets.now (outputs_of (procedure_of c.index.result.now) s) c.in-Some.frame.state.items) c.deref-in-Some.ensures.value) (c.in_ok-from_slice-in-Some.ensures.items ∙ c.deref-in-Some-2.ensures.value))) c.for_sure.ensures
