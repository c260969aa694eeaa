pub mod Header
pub mod Sizes
pub mod Reading
pub mod Parts
