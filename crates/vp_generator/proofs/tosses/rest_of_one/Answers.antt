use Rattle.heylo_formula.specs.Formula.{Form}
use Rattle.heylo_graph.specs.Trees.{Tree}
use Rattle.heylo_graph.proofs.exported.LongerLists.{fits, const_node, cut_node, stands_longer}
use Rattle.heyvl_num.specs.Value.{oneᵛ}
use Rattle.vp_generator.proofs.GraphForms.{one_stands, rest_stands}
use Rattle.vp_generator.proofs.tosses.rest_of_one.Goals as goal

pub join-requires : goal.join-requires
join-requires c = fits c.args.graph.now _ _ (const_node c.args.graph.now c.one.result)

pub join-requires-2 : goal.join-requires-2
join-requires-2 c = fits c.join.new.self _ _ (cut_node c.join.new.self c.in_ok-one.one c.args.least (Form.number oneᵛ) c.requires.form (one_stands c.one.result c.args.graph.now c.join.new.self c.in_ok-one.one c.one.ensures c.in_ok-one.ensures.tree) (stands_longer c.args.graph.now c.join.new.self c.args.least (Tree.formula c.requires.form) c.in_ok-one.ensures.begins c.requires.stands))

pub returns-clause-tree : goal.returns-clause-tree
returns-clause-tree c = rest_stands c.join-2.result c.args.graph.now c.join.new.self c.join-2.new.self c.in_ok-one.one c.args.least c.in_ok-one.ensures.begins (one_stands c.one.result c.args.graph.now c.join.new.self c.in_ok-one.one c.one.ensures c.in_ok-one.ensures.tree) c.join-2.ensures.tree
