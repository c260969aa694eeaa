pub mod Equal
pub mod Words
