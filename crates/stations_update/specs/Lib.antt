pub mod Counting
pub mod Removing
