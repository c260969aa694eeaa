pub mod Showing
pub mod Paths
pub mod Inversion
pub mod Faults
pub mod Number
pub mod Extents
pub mod Exact
pub mod Senders
