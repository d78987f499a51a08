use Rattle.heylo_formula.specs.PlainTrees.{term_of}
use Rattle.heylo_graph.specs.Trees.{Tree}
use Rattle.heylo_graph.proofs.exported.LongerLists.{stands_longer}
use Rattle.vp_generator.proofs.BuiltForms.{stop_of_right}
use Rattle.vp_generator.proofs.GraphForms.{formula_longer, made_form}
use Rattle.vp_generator.specs.GeneratedForms.{part_form}
use Rattle.vp_generator.proofs.draws.with_part.Goals as goal

pub added-requires-clause-first : goal.added-requires-clause-first
added-requires-clause-first c = formula_longer c.args.graph.now c.part.new.graph c.args.total c.in-Ok.ensures.begins c.requires.total

pub added-requires-clause-second : goal.added-requires-clause-second
added-requires-clause-second c = made_form c.args.most _ c.part.new.graph c.in-Ok.next (c.in-Ok.ensures.made c.requires.ready.form c.requires.ready.stands)

pub returns-in-Ok-clause-made : goal.returns-in-Ok-clause-made
returns-in-Ok-clause-made c = λ k l s u. c.added.ensures.made l _ (stands_longer c.args.graph.now c.part.new.graph c.args.total (Tree.formula l) c.in-Ok.ensures.begins u) (c.in-Ok.ensures.made k s).0

pub returns-in-Err-clause-made : goal.returns-in-Err-clause-made
returns-in-Err-clause-made c = λ k l s u. stop_of_right c.args.most l (part_form c.args.var (c.args.one.now.0, term_of c.args.one.now.1) k) c.in-Err.stop (c.in-Err.ensures.made k s)
