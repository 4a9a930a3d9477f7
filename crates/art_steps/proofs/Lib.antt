pub mod InsertLemmas
pub mod LoadLemmas
mod Names
pub mod PlaceLemmas
pub mod RemoveLemmas
pub mod SharedLemmas
pub mod Sizes
