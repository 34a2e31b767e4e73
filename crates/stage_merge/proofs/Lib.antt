pub mod Choosing
pub mod Plans
pub mod Merges
pub mod Fewer
pub mod Mergers
pub mod MergeRests
pub mod MergeNodes
pub mod Following
