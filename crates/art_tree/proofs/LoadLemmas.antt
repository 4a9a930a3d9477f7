pub mod LeafLists
pub mod LoadedTree
pub mod ReloadedTree
