pub mod Going
pub mod Parts
pub mod Ranks
pub mod Several
pub mod Sums
