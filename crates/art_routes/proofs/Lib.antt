pub mod AggregateLemmas
pub mod BitLemmas
pub mod ByteLemmas
pub mod CallLaws
pub mod ChangeLemmas
pub mod ChildLemmas
pub mod CoverLemmas
pub mod CoveredLemmas
pub mod CoveringLemmas
pub mod FreeLemmas
pub mod HalfLemmas
pub mod KeyBytes
pub mod MatchLemmas
pub mod OrderLemmas
pub mod PartLemmas
pub mod PutLemmas
pub mod RouteLemmas
pub mod TextLemmas
pub mod TreeRoutes
pub mod ResultLemmas
pub mod WayLemmas
pub mod ReadLemmas
pub mod RemovalLemmas
pub mod PutAgainLemmas
pub mod ThroughLemmas
pub mod EndLemmas
pub mod EnteredLemmas
mod LeafNames
mod CalledLemmas
mod EntryLemmas
mod HeldLemmas
mod LentLemmas
mod LinkLemmas
mod ListLemmas
mod RangeLemmas
mod RunLemmas
mod ShrinkLemmas
mod SideLemmas
mod SplitLemmas
mod WalkLemmas
