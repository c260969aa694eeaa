pub mod Answer
pub mod Bound
pub mod Command
