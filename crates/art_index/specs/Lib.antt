pub mod Anchors
pub mod Places
pub mod Descent
