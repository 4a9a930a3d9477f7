pub mod FullPrefix
pub mod Nodes
