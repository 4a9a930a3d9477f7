pub mod Descent
pub mod Paths
pub mod Search
