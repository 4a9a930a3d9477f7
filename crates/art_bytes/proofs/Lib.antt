pub mod Cases
mod CommonPrefix
pub mod Members
pub mod PrefixLaws
pub mod TextLaws
