use Rattle.vp_generator.proofs.GeneratorSteps.{none_left, part_ready, parts_first, parts_next, parts_stop, parts_last}
use Rattle.vp_generator.proofs.GraphForms.{begins_on, placed_form}
use Rattle.vp_generator.proofs.draws.sum_from.Goals as goal

pub parts-init : goal.parts-init
parts-init c = parts_first c.args.most c.args.var c.args.graph.now c.args.form c.args.start c.args.parts.now c.requires.ready c.requires.start

pub with_part-requires-clause-ready : goal.with_part-requires-clause-ready
with_part-requires-clause-ready c = part_ready c.args.most c.args.var c.parts.graph c.parts.rest.now c.in-Some.more.now c.in-Some.next.now c.args.form c.in-Some.ensures.cases.0 c.parts.invariant.ready

pub with_part-requires-clause-total : goal.with_part-requires-clause-total
with_part-requires-clause-total c = placed_form c.args.most c.parts.graph c.parts.total c.parts.invariant.total

pub parts-preserved : goal.parts-preserved
parts-preserved c = let i = c.parts.invariant in parts_next c.args.most c.args.var c.args.graph.now c.args.form c.args.start c.args.parts.now c.parts.graph c.with_part.new.graph c.parts.rest.now c.in-Some.more.now c.in-Some.next.now c.parts.total c.in-Ok.longer i c.in-Some.ensures.cases.0 c.in-Ok.ensures.begins (c.in-Ok.ensures.made i.ready.form i.total.form i.ready.stands i.total.stands)

pub returns-in-Err-clause-begins : goal.returns-in-Err-clause-begins
returns-in-Err-clause-begins c = begins_on c.args.graph.now c.parts.graph c.with_part.new.graph c.parts.invariant.begins c.in-Err.ensures.begins

pub returns-in-Err-clause-made : goal.returns-in-Err-clause-made
returns-in-Err-clause-made c = λ k l s u. let i = c.parts.invariant in parts_stop c.args.most c.args.var c.args.graph.now c.args.form c.args.start c.args.parts.now c.parts.graph c.parts.rest.now c.in-Some.more.now c.in-Some.next.now c.parts.total c.in-Err.stop k l i c.in-Some.ensures.cases.0 (c.in-Err.ensures.made i.ready.form i.total.form i.ready.stands i.total.stands) s u

pub returns-clause-made : goal.returns-clause-made
returns-clause-made c = λ k l s u. parts_last c.args.most c.args.var c.args.graph.now c.args.form c.args.start c.args.parts.now c.parts.graph c.parts.rest.now c.parts.total k l c.parts.invariant (none_left c.parts.rest.now c.in_default.ensures.cases) s u
