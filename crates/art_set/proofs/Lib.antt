pub mod ListLemmas
pub mod OrderedKeys
pub mod WalkLemmas
pub mod KeyOrders
pub mod EndKeys
pub mod ReplacedKeys
