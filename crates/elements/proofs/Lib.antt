pub mod Numbers
pub mod Runs
pub mod Order
pub mod Local
pub mod Walking
