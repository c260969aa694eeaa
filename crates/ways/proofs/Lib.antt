pub mod Sums
pub mod Rows
pub mod Counting
pub mod Answers
