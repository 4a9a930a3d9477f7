pub mod AddedChild
pub mod AddedLeaf
pub mod GapLemmas
pub mod LinkLemmas
pub mod NodeLemmas
pub mod SubtreeLemmas
