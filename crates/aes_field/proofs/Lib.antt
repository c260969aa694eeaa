pub mod Table
pub mod Substitutes
pub mod Products
