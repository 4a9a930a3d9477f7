pub mod Header
pub mod NodeType
