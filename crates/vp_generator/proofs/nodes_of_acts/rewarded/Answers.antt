use Rattle.heylo_formula.specs.PlainTrees.{form_of}
use Rattle.heylo_graph.specs.Trees.{Tree}
use Rattle.heylo_graph.proofs.exported.LongerLists.{stands_longer}
use Rattle.vp_generator.proofs.GraphForms.{formula_longer}
use Rattle.vp_generator.proofs.nodes_of_acts.rewarded.Goals as goal

pub added-requires-clause-first : goal.added-requires-clause-first
added-requires-clause-first c = formula_longer c.args.graph.now c.put.new.self c.args.form c.in_ok-held.ensures.begins c.requires.form

pub returns-clause-made : goal.returns-clause-made
returns-clause-made c = λ k s. c.added.ensures.made k (form_of c.args.reward.now) (stands_longer c.args.graph.now c.put.new.self c.args.form (Tree.formula k) c.in_ok-held.ensures.begins s) c.in_ok-held.ensures.tree
