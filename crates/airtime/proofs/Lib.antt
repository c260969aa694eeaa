pub mod Walks
pub mod Worst
pub mod Within
pub mod Exact
pub mod Same
pub mod Places
pub mod Told
