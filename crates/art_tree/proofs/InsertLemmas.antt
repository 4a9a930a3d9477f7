pub mod FirstEntry
pub mod AddedFork
pub mod EntryLemmas
pub mod NeededNodes
pub mod NeededChild
pub mod NeededFork
pub mod PlacedEntries
