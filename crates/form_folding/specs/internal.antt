pub mod FoldedNodes
