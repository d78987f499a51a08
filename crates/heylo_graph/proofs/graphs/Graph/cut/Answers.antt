use Rattle.std.proofs.Common.{◌≤◌, sym, subst, length}
use Rattle.heylo_graph.proofs.StoredSizes.{cut_stored}
use Rattle.heylo_graph.proofs.graphs.Graph.cut.Goals as goal

pub invariant_of-self : goal.invariant_of-self
invariant_of-self c = cut_stored c.args.len c.self.inside.nodes.keys c.truncate.new.self.keys c.self.inside.sizes.items c.truncate-2.new.self.items (subst (λ l. c.args.len ≤ length l) (sym c.self.view_is) c.requires) c.self.invariant c.truncate.ensures.keys c.truncate-2.ensures.items
