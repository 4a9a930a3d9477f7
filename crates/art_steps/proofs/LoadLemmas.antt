pub mod OpenNodes
pub mod PlacedTrees
pub mod PlanLemmas
pub mod RefusalLemmas
