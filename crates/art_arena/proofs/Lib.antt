pub mod AnyLeafLemmas
mod ArenaLemmas
mod BelowLemmas
pub mod DescentLemmas
mod EndLemmas
pub mod Heights
mod InnerRefLemmas
mod KeptLemmas
mod KnitLemmas
pub mod LeafLemmas
mod LinkedLists
mod PlaceLemmas
pub mod StandingLaws
pub mod TextLemmas
pub mod TreeLaws
mod TreeLemmas
pub mod WayLemmas
