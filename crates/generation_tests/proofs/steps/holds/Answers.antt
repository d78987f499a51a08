use Rattle.std.proofs.Common.{refl}
use Rattle.heylo_formula.specs.Formula.{Form, Cond}
use Rattle.heylo_graph.specs.Trees.{Tree}
use Rattle.heylo_graph.specs.declared.nodes.Node.{Node}
use Rattle.heylo_graph.proofs.exported.LongerLists.{fits, flag_node, iverson_node}
use Rattle.generation_tests.proofs.BooleanForms.{ok_iverson}
use Rattle.generation_tests.proofs.steps.holds.Goals as goal

pub join-requires : goal.join-requires
join-requires c = fits c.args.graph.now (Node.Flag 0) (Tree.condition (Cond.flag 0)) (flag_node c.args.graph.now 0)

pub join-requires-2 : goal.join-requires-2
join-requires-2 c = fits c.join.new.self (Node.Iverson c.in_ok-test.test) (Tree.formula (Form.iverson (Cond.flag 0))) (iverson_node c.join.new.self c.in_ok-test.test (Cond.flag 0) (c.in_ok-test.ensures.tree (Tree.condition (Cond.flag 0)) (flag_node c.args.graph.now 0).gives))

pub returns : goal.returns
returns c = ok_iverson c.join.new.self c.join-2.new.self c.in_ok-test.test (Cond.flag 0) c.join-2.result refl refl (c.in_ok-test.ensures.tree (Tree.condition (Cond.flag 0)) (flag_node c.args.graph.now 0).gives) c.join-2.ensures.tree
