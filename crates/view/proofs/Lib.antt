pub mod Told
pub mod Opened
