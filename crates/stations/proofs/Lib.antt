pub mod Memory
pub mod Places
pub mod Answers
