pub mod Equal
pub mod Listed
pub mod Columns
