use Rattle.vp_generator.proofs.GraphForms.{both_within}
use Rattle.vp_generator.proofs.nodes_of_acts.put.Goals as goal

pub small-requires-clause-there : goal.small-requires-clause-there
small-requires-clause-there c =
    let both = both_within c.args.most _ c.args.graph.now c.subst.new.self c.args.form c.in_ok-next.next _ c.in_ok-next.ensures.begins c.requires.ready (c.in_ok-next.ensures.tree c.requires.ready.form c.requires.ready.stands) in
    assumption both
