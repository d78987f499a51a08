use Rattle.std.proofs.Common.{◌≡◌, Option, length, sym, subst}
use Rattle.heylo_graph.specs.Trees.{Tree}
use Rattle.heylo_graph.specs.Nodes.{tree_at}
use Rattle.heylo_graph.specs.internal.Tables.{IsBefore, PartTree}
use Rattle.heylo_graph.specs.internal.StoredSizes.{part_size}
use Rattle.heylo_graph.proofs.PartTrees.{parts_within}
use Rattle.heylo_graph.proofs.StoredSizes.{size_together}
use Rattle.heylo_graph.proofs.graphs.Graph.size_over.Goals as goal

pub part_size-a-requires : goal.part_size-a-requires
part_size-a-requires c = subst (λ p. IsBefore p (length c.args.self.now)) (sym c.first.ensures) (parts_within c.args.self.now c.args.node.now c.requires.tree c.requires.stands).0

pub part_size-b-requires : goal.part_size-b-requires
part_size-b-requires c = subst (λ p. IsBefore p (length c.args.self.now)) (sym c.second.ensures) (parts_within c.args.self.now c.args.node.now c.requires.tree c.requires.stands).1

pub part_size-c-requires : goal.part_size-c-requires
part_size-c-requires c = subst (λ p. IsBefore p (length c.args.self.now)) (sym c.third.ensures) (parts_within c.args.self.now c.args.node.now c.requires.tree c.requires.stands).2

pub returns : goal.returns
returns c = λ t h.
    size_together c.args.self.now c.args.node.now t c.part_size-a.result c.part_size-b.result c.part_size-c.result c.above.result c.below.result h
    (subst (λ p. (u : Option Tree) → PartTree (tree_at c.args.self.now) p u → c.part_size-a.result ≡ part_size u) c.first.ensures c.part_size-a.ensures)
    (subst (λ p. (u : Option Tree) → PartTree (tree_at c.args.self.now) p u → c.part_size-b.result ≡ part_size u) c.second.ensures c.part_size-b.ensures)
    (subst (λ p. (u : Option Tree) → PartTree (tree_at c.args.self.now) p u → c.part_size-c.result ≡ part_size u) c.third.ensures c.part_size-c.ensures)
    c.above.ensures c.below.ensures
