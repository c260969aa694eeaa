pub mod Ways
pub mod Answer
pub mod Table
pub mod Tally
