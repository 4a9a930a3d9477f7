pub mod DescentLemmas
pub mod DistinctLists
pub mod HeldParts
pub mod MetLemmas
mod Names
pub mod OnlyWayLemmas
pub mod PathNodes
pub mod PathSteps
pub mod ScanLemmas
pub mod WayLemmas
