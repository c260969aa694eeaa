pub mod Exchange
pub mod Encoding
pub mod Forms
