pub mod ChildLemmas
pub mod HeldNodes
pub mod MatchLemmas
mod Names
pub mod PlacedNodes
pub mod ReadLemmas
