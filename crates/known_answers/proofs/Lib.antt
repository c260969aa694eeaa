pub mod Inverse
pub mod Aes
pub mod Counter
pub mod Sha1
pub mod Sealed
