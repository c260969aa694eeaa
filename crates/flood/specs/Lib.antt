pub mod Air
pub mod Complete
pub mod Flood
