pub mod Behind
pub mod Putting
pub mod Demands
