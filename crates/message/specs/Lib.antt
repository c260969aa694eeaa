pub mod Protection
pub mod Sealable
