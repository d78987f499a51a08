use Rattle.std.proofs.Common.{◌≡◌, ℕ, ◌<◌, List, Some, slice_get, length, get_or, refl, ap₂, ◌∙◌}
use Rattle.std.proofs.lemmas.Option.{slice_get_read}
use Rattle.heylo_graph.specs.declared.nodes.Node.{Node}
use Rattle.heylo_graph.proofs.Trees.{stands_assembled}
use Rattle.heylo_graph.proofs.graphs.Graph.node.Goals as goal

read : (ns keys : List Node) (i j : ℕ) (n : Node) → keys ≡ ns → j ≡ i → i < length ns → n ≡ get_or keys j n → slice_get ns i ≡ Some n
read ns keys i j n e f l g = slice_get_read ns (length ns) i n refl l (g ∙ ap₂ (λ a b. get_or a b n) e f)

pub returns-clause-tree : goal.returns-clause-tree
returns-clause-tree c = λ t s. record { gives = stands_assembled c.args.self.now c.args.id _ t (read c.args.self.now c.as_slice.result.now c.args.id c.index.result c.index-as_slice-index.result (c.as_slice.ensures.keys ∙ c.self.view_is) c.index.ensures c.requires c.index-as_slice-index.is) s.tree }
