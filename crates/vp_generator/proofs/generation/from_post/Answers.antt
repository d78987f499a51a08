use Rattle.heylo_graph.specs.Trees.{Tree}
use Rattle.heylo_graph.proofs.exported.LongerLists.{tree_within}
use Rattle.vp_generator.proofs.BuiltForms.{stop_of_acts}
use Rattle.vp_generator.proofs.generation.from_post.Goals as goal

pub small-requires-clause-there : goal.small-requires-clause-there
small-requires-clause-there c = tree_within c.args.graph.now c.args.post (Tree.formula c.requires.post.form) c.requires.post.stands.tree

pub over_acts-requires-clause-ready : goal.over_acts-requires-clause-ready
over_acts-requires-clause-ready c =
    let p = c.requires.post in
    let m = c.in-Ok.ensures p.form p.stands in
    record { form = p.form; stands = m.0; asked = p.fit; within = m.1; plain = λ h. (c.requires.plain h).post p.form p.stands }

pub over_acts-requires-clause-calm : goal.over_acts-requires-clause-calm
over_acts-requires-clause-calm c = λ h. (c.requires.plain h).calm

pub returns-in-Ok-clause-made : goal.returns-in-Ok-clause-made
returns-in-Ok-clause-made c = λ k s. c.over_acts.ensures.made k (c.in-Ok.ensures k s).0

pub returns-in-Err-clause-made : goal.returns-in-Err-clause-made
returns-in-Err-clause-made c = λ k s. stop_of_acts c.args.most c.requires.post.fit.types c.args.acts.now k c.in-Err.stop c.requires.post.fit.fit (c.in-Err.ensures k s)
