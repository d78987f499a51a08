use Rattle.std.proofs.Common.{sym, subst}
use Rattle.heylo_formula.specs.PlainTrees.{term_of}
use Rattle.heylo_graph.specs.Trees.{Tree}
use Rattle.heylo_graph.proofs.exported.LongerLists.{stands_longer}
use Rattle.heyvl_acts.specs.PlainActs.{parts_of}
use Rattle.vp_generator.specs.GeneratedForms.{part_form, draw_form}
use Rattle.vp_generator.specs.internal.GraphSteps.{IsMade}
use Rattle.vp_generator.proofs.BuiltForms.{stop_of_draw}
use Rattle.vp_generator.proofs.GeneratorSteps.{draw_ready}
use Rattle.vp_generator.proofs.GraphForms.{ready_longer, made_placed}
use Rattle.vp_generator.proofs.draws.drawn.Goals as goal

pub part-requires-clause-ready : goal.part-requires-clause-ready
part-requires-clause-ready c = (draw_ready c.args.most c.args.var c.args.parts.now c.in-Some.others.now c.in-Some.first.now c.args.graph.now c.args.form c.in-Some.ensures.cases.0 c.requires.ready).0

pub sum_from-requires-clause-ready : goal.sum_from-requires-clause-ready
sum_from-requires-clause-ready c = ready_longer c.args.most _ c.args.graph.now c.part.new.graph c.args.form c.in-Ok.ensures.begins (draw_ready c.args.most c.args.var c.args.parts.now c.in-Some.others.now c.in-Some.first.now c.args.graph.now c.args.form c.in-Some.ensures.cases.0 c.requires.ready).1

pub sum_from-requires-clause-start : goal.sum_from-requires-clause-start
sum_from-requires-clause-start c = made_placed c.args.most _ c.part.new.graph c.in-Ok.start (c.in-Ok.ensures.made c.requires.ready.form c.requires.ready.stands)

pub returns-in-Ok-clause-made : goal.returns-in-Ok-clause-made
returns-in-Ok-clause-made c = λ k s. subst (λ l. IsMade c.args.most (draw_form c.args.var (parts_of l) k) c.sum_from.result c.sum_from.new.graph) (sym c.in-Some.ensures.cases.0) (c.sum_from.ensures.made k _ (stands_longer c.args.graph.now c.part.new.graph c.args.form (Tree.formula k) c.in-Ok.ensures.begins s) (c.in-Ok.ensures.made k s).0)

pub returns-in-Err-clause-made : goal.returns-in-Err-clause-made
returns-in-Err-clause-made c = λ k s. stop_of_draw c.args.most c.args.var c.args.parts.now c.in-Some.others.now c.in-Some.first.now k c.in-Err.stop c.in-Some.ensures.cases.0 (c.in-Err.ensures.made k s)
