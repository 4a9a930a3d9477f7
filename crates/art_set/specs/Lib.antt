pub mod KeyLists
pub mod Walks
