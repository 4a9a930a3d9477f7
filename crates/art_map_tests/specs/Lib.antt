pub mod Names
pub mod StdEntries
pub mod MapEntries
