pub mod Lines
pub mod Failures
pub mod Faults
pub mod Programs
pub mod Messages
pub mod Sessions
pub mod Numbers
