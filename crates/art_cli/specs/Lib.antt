pub mod Failure
pub mod Command
pub mod Words
pub mod Request
pub mod Find
pub mod Answer
pub mod Reply
pub mod Program
