mod Names
pub mod EntryLaws
mod SharedLemmas
mod LoadLemmas
mod InsertLemmas
mod RemoveLemmas
