pub mod Example
pub mod Shown
pub mod Lines
