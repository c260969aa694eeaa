pub mod Answers
pub mod Series
pub mod Values
pub mod Commands
