pub mod Cuts
pub mod Replies
mod Parts
mod Writes
pub mod SaidLines
mod Throughs
mod AnswerLemmas
mod NumberLemmas
