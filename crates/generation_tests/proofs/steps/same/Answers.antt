use Rattle.std.proofs.Common.{refl}
use Rattle.heylo_formula.specs.Formula.{Form, Cond}
use Rattle.heylo_graph.specs.Trees.{Tree}
use Rattle.heylo_graph.specs.declared.nodes.Node.{Node}
use Rattle.heylo_graph.proofs.exported.LongerLists.{fits, flag_node, iverson_node, same_node, stands_longer}
use Rattle.generation_tests.proofs.BooleanForms.{ok_iverson}
use Rattle.generation_tests.proofs.steps.same.Goals as goal

pub join-requires : goal.join-requires
join-requires c = fits c.args.graph.now (Node.Flag 0) (Tree.condition (Cond.flag 0)) (flag_node c.args.graph.now 0)

pub join-requires-2 : goal.join-requires-2
join-requires-2 c = fits c.join.new.self (Node.Flag 1) (Tree.condition (Cond.flag 1)) (flag_node c.join.new.self 1)

pub join-requires-3 : goal.join-requires-3
join-requires-3 c =
    let first = stands_longer c.join.new.self c.join-2.new.self c.in_ok-first.first (Tree.condition (Cond.flag 0)) c.in_ok-second.ensures.begins (c.in_ok-first.ensures.tree (Tree.condition (Cond.flag 0)) (flag_node c.args.graph.now 0).gives) in
    let second = c.in_ok-second.ensures.tree (Tree.condition (Cond.flag 1)) (flag_node c.join.new.self 1).gives in
    fits c.join-2.new.self (Node.Same c.in_ok-first.first c.in_ok-second.second) (Tree.condition (Cond.same (Cond.flag 0) (Cond.flag 1))) (same_node c.join-2.new.self c.in_ok-first.first c.in_ok-second.second (Cond.flag 0) (Cond.flag 1) first second)

pub join-requires-4 : goal.join-requires-4
join-requires-4 c =
    let first = stands_longer c.join.new.self c.join-2.new.self c.in_ok-first.first (Tree.condition (Cond.flag 0)) c.in_ok-second.ensures.begins (c.in_ok-first.ensures.tree (Tree.condition (Cond.flag 0)) (flag_node c.args.graph.now 0).gives) in
    let second = c.in_ok-second.ensures.tree (Tree.condition (Cond.flag 1)) (flag_node c.join.new.self 1).gives in
    let test = c.in_ok-test.ensures.tree (Tree.condition (Cond.same (Cond.flag 0) (Cond.flag 1))) (same_node c.join-2.new.self c.in_ok-first.first c.in_ok-second.second (Cond.flag 0) (Cond.flag 1) first second).gives in
    fits c.join-3.new.self (Node.Iverson c.in_ok-test.test) (Tree.formula (Form.iverson (Cond.same (Cond.flag 0) (Cond.flag 1)))) (iverson_node c.join-3.new.self c.in_ok-test.test (Cond.same (Cond.flag 0) (Cond.flag 1)) test)

pub returns : goal.returns
returns c =
    let first = stands_longer c.join.new.self c.join-2.new.self c.in_ok-first.first (Tree.condition (Cond.flag 0)) c.in_ok-second.ensures.begins (c.in_ok-first.ensures.tree (Tree.condition (Cond.flag 0)) (flag_node c.args.graph.now 0).gives) in
    let second = c.in_ok-second.ensures.tree (Tree.condition (Cond.flag 1)) (flag_node c.join.new.self 1).gives in
    let test = c.in_ok-test.ensures.tree (Tree.condition (Cond.same (Cond.flag 0) (Cond.flag 1))) (same_node c.join-2.new.self c.in_ok-first.first c.in_ok-second.second (Cond.flag 0) (Cond.flag 1) first second).gives in
    ok_iverson c.join-3.new.self c.join-4.new.self c.in_ok-test.test (Cond.same (Cond.flag 0) (Cond.flag 1)) c.join-4.result refl refl test c.join-4.ensures.tree
