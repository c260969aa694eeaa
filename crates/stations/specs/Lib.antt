pub mod Table
pub mod Asking
