pub mod Repeat
pub mod Answers
pub mod Editions
