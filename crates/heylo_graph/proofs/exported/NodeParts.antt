-- For the proofs of other crates: the tree of a node and those of its children.
pub use Rattle.heylo_graph.proofs.PartTrees.{FormPart, form_part, CondPart, cond_part, first_tree, second_tree, third_tree, Taken, taken_apart}
pub use Rattle.heylo_graph.proofs.PartSizes.{part_nodes, nodes_over}
