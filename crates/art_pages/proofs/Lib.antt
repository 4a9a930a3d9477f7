pub mod OrderLemmas
pub mod PlaceLemmas
pub mod MiddleLemmas
mod ValueLemmas
mod KeptLemmas
pub mod FoundLemmas
pub mod RetainLemmas
mod SiftLemmas
