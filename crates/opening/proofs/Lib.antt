pub mod Sealed
pub mod Deciding
pub mod Putting
pub mod Opened
