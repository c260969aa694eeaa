pub mod Deciphering
pub mod Compared
