pub mod Rounds
pub mod Expanding
