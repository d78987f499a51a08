use Rattle.heylo_formula.specs.PlainTrees.{form_of}
use Rattle.heylo_graph.specs.Trees.{Tree}
use Rattle.heylo_graph.proofs.exported.LongerLists.{stands_longer}
use Rattle.vp_generator.proofs.GraphForms.{formula_longer}
use Rattle.vp_generator.proofs.nodes_of_acts.checked.Goals as goal

pub check_joined-requires-clause-form : goal.check_joined-requires-clause-form
check_joined-requires-clause-form c = formula_longer c.args.graph.now c.put.new.self c.args.form c.in_ok-left.ensures.begins c.requires.form

pub returns-clause-made : goal.returns-clause-made
returns-clause-made c = λ k s. c.check_joined.ensures.made (form_of c.args.held.now) k c.in_ok-left.ensures.tree (stands_longer c.args.graph.now c.put.new.self c.args.form (Tree.formula k) c.in_ok-left.ensures.begins s)
