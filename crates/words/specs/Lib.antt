pub mod Queries
pub mod Faults
pub mod Dictionaries
pub mod Replies
pub mod Places
