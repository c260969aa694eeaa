pub mod Laws
pub mod Tied
pub mod Room
