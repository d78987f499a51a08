use Rattle.std.proofs.Common.{◌≡◌}
use Rattle.goal_answers.specs.Trees.{tree_of}
use Rattle.cert_text.specs.internal.ReadStates.{complete, fill, open_of}
use Rattle.cert_text.proofs.FilledTrees.{made_whole}
use Rattle.cert_text.proofs.states.put_leaf.Goals as goal

pub returns-in_ok-push-in-Some : goal.returns-in_ok-push-in-Some
returns-in_ok-push-in-Some c =
    let f : fill (open_of c.args.reading.now.way.items) (tree_of c.args.leaf) ≡ complete (tree_of c.in-Some.tree) = rw c.in-Some.is at c.in_ok-fill.ensures in
    made_whole c.args.reading.now.edition c.args.reading.now.certs.items c.push.new.self.items c.args.name c.in-Some.tree _ f c.in_ok-push-in-Some.ensures.items
