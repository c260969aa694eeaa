pub mod Chains
pub mod Lengths
pub mod Reach
pub mod Rounds
