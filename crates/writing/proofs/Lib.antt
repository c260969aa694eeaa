pub mod Encoding
pub mod Within
pub mod Back
pub mod Same
