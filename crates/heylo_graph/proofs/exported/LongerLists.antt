-- For the proofs of other crates: the nodes of a list and of a longer one, and the node of a tree
-- with its children.
pub use Rattle.heylo_graph.proofs.Trees.{same_form, tree_within, tree_kept, tree_last, stands_longer}
pub use Rattle.heylo_graph.proofs.NodesOverParts.{fits, const_node, var_node, sum_node, diff_node, cut_node, scale_node, product_node, min_node, max_node, imply_node, co_imply_node, validate_node, co_validate_node, embed_node, iverson_node, select_node, bind_node, truth_node, flag_node, not_node, and_node, or_node, same_node, le_node, lt_node, equal_node, ite_node}
