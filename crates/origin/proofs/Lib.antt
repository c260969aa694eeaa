pub mod Deciding
pub mod Fresh
pub mod ReadBack
