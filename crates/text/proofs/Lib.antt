pub mod Example
pub mod Decimal
pub mod Parts
pub mod Hex
