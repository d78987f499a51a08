use Rattle.heylo_graph.proofs.exported.LongerLists.{fits, sum_node}
use Rattle.vp_generator.proofs.nodes_of_acts.added.Goals as goal

pub joined-requires-clause-fits : goal.joined-requires-clause-fits
joined-requires-clause-fits c = fits c.args.graph.now _ _ (sum_node c.args.graph.now c.args.first c.args.second c.requires.first.form c.requires.second.form c.requires.first.stands c.requires.second.stands)

pub returns-clause-made : goal.returns-clause-made
returns-clause-made c = λ k l s u. c.joined.ensures.made _ (sum_node c.args.graph.now c.args.first c.args.second k l s u)
