pub mod Answered
pub mod Lining
pub mod Jobs
pub mod Short
pub mod Whole
