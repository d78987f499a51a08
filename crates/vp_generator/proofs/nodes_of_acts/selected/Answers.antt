use Rattle.heylo_graph.specs.Trees.{Tree}
use Rattle.heylo_graph.proofs.exported.LongerLists.{fits, select_node, stands_longer}
use Rattle.vp_generator.proofs.nodes_of_acts.selected.Goals as goal

pub joined-requires-clause-fits : goal.joined-requires-clause-fits
joined-requires-clause-fits c = fits c.put_cond.new.self _ _ (select_node c.put_cond.new.self c.in_ok-test.test c.args.first c.args.second _ _ _ c.in_ok-test.ensures.tree (stands_longer c.args.graph.now c.put_cond.new.self c.args.first (Tree.formula c.requires.first.form) c.in_ok-test.ensures.begins c.requires.first.stands) (stands_longer c.args.graph.now c.put_cond.new.self c.args.second (Tree.formula c.requires.second.form) c.in_ok-test.ensures.begins c.requires.second.stands))

pub returns-clause-made : goal.returns-clause-made
returns-clause-made c = λ k l s u. c.joined.ensures.made _ (select_node c.put_cond.new.self c.in_ok-test.test c.args.first c.args.second _ _ _ c.in_ok-test.ensures.tree (stands_longer c.args.graph.now c.put_cond.new.self c.args.first (Tree.formula k) c.in_ok-test.ensures.begins s) (stands_longer c.args.graph.now c.put_cond.new.self c.args.second (Tree.formula l) c.in_ok-test.ensures.begins u))
