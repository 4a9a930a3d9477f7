pub mod Entries
pub mod Contents
pub mod Lending
pub mod Places
pub mod Retaining
