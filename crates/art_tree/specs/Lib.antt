pub mod Entering
pub mod Finding
pub mod LeafRemoval
pub mod Reloading
pub mod Dropping
pub mod Entries
pub mod TreeLending
