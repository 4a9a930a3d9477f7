mod BatchLemmas
mod FoundLemmas
mod InBytesLemmas
mod LendLemmas
mod LimitLemmas
mod LoadLemmas
pub mod LoanSteps
mod ManyLemmas
pub mod WriteLemmas
