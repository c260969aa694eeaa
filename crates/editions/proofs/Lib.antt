pub mod Showing
pub mod Same
