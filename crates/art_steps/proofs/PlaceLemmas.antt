pub mod ChildrenBeside
pub mod SharedSpots
pub mod SideLemmas
pub mod SidesAround
pub mod TextsBelow
pub mod TowardLemmas
pub mod WayPlaces
