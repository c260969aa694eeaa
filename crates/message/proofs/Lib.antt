pub mod Hashing
pub mod Sealable
