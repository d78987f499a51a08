use Rattle.heyvl_acts.specs.PlainActs.{acts_of}
use Rattle.heylo_graph.specs.Trees.{Tree}
use Rattle.heylo_graph.proofs.exported.LongerLists.{tree_within}
use Rattle.vp_generator.specs.GeneratedForms.{vp}
use Rattle.generation_tests.proofs.form_tests.write_form.Goals as goal

pub write_sizes-requires : goal.write_sizes-requires
write_sizes-requires c = tree_within c.vp_in.new.graph c.in-Ok.id (Tree.formula (vp (acts_of c.args.acts.now) c.requires.post.form)) (c.in-Ok.ensures c.requires.post.form c.requires.post.stands).1.0.tree
