pub mod Lines
pub mod Faults
pub mod Tables
pub mod Replies
pub mod Reading
