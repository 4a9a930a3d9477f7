pub mod Addresses
pub mod Found
pub mod Refusals
pub mod Available
pub mod Differing
