pub mod Captures
pub mod ChangedParts
mod Examples
pub mod FreshSearch
pub mod MarkTables
pub mod NodeMoves
pub mod NodesOverParts
pub mod PartSizes
pub mod PartTrees
pub mod Readings
pub mod RenamedNodes
pub mod SameNodes
pub mod SameTrees
pub mod SmallParts
pub mod StoredSizes
pub mod SubstitutedNodes
pub mod Trees
pub mod exported
