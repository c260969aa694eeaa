pub mod Laws
pub mod Tied
