pub mod Faults
pub mod Fields
pub mod Readings
pub mod Queries
pub mod Rows
pub mod Replies
pub mod Keys
pub mod Searches
