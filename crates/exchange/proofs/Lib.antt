pub mod Written
pub mod There
pub mod Run
pub mod Judged
pub mod Putting
pub mod Back
pub mod Laws
pub mod Answered
