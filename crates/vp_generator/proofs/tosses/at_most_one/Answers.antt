use Rattle.heylo_formula.specs.Formula.{Form}
use Rattle.heylo_formula.specs.PlainTrees.{form_of}
use Rattle.heylo_graph.specs.Trees.{Tree}
use Rattle.heylo_graph.proofs.exported.LongerLists.{fits, const_node, min_node, stands_longer}
use Rattle.heyvl_num.specs.Value.{oneᵛ}
use Rattle.vp_generator.proofs.GraphForms.{begins_on, joined_begins, joined_stands, one_stands}
use Rattle.vp_generator.proofs.tosses.at_most_one.Goals as goal

pub join-requires : goal.join-requires
join-requires c = fits c.put.new.self _ _ (const_node c.put.new.self c.one.result)

pub join-requires-2 : goal.join-requires-2
join-requires-2 c = fits c.join.new.self _ _ (min_node c.join.new.self c.in_ok-held.held c.in_ok-one.one (form_of c.args.weight.now) (Form.number oneᵛ) (stands_longer c.put.new.self c.join.new.self c.in_ok-held.held (Tree.formula (form_of c.args.weight.now)) c.in_ok-one.ensures.begins c.in_ok-held.ensures.tree) (one_stands c.one.result c.put.new.self c.join.new.self c.in_ok-one.one c.one.ensures c.in_ok-one.ensures.tree))

pub returns-clause-begins : goal.returns-clause-begins
returns-clause-begins c = begins_on c.args.graph.now c.put.new.self c.join-2.new.self c.in_ok-held.ensures.begins (begins_on c.put.new.self c.join.new.self c.join-2.new.self c.in_ok-one.ensures.begins (joined_begins c.join-2.result c.join.new.self c.join-2.new.self c.join-2.ensures.begins c.join-2.ensures.err))

pub returns-clause-tree : goal.returns-clause-tree
returns-clause-tree c = joined_stands c.join-2.result c.join.new.self c.join-2.new.self _ _ c.join-2.ensures.tree (min_node c.join.new.self c.in_ok-held.held c.in_ok-one.one (form_of c.args.weight.now) (Form.number oneᵛ) (stands_longer c.put.new.self c.join.new.self c.in_ok-held.held (Tree.formula (form_of c.args.weight.now)) c.in_ok-one.ensures.begins c.in_ok-held.ensures.tree) (one_stands c.one.result c.put.new.self c.join.new.self c.in_ok-one.one c.one.ensures c.in_ok-one.ensures.tree))
