use Rattle.std.proofs.Common.{subst}
use Rattle.heylo_graph.specs.Nodes.{AreDifferent}
use Rattle.heylo_graph.proofs.SameTrees.{set_differs}
use Rattle.heylo_graph.proofs.graphs.Graph.len.Goals as goal

pub returns-clause-different : goal.returns-clause-different
returns-clause-different c = subst AreDifferent c.self.view_is (set_differs c.self.inside.nodes.keys c.len.ensures.unique)
