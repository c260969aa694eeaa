pub mod Order
pub mod Faults
pub mod Chosen
pub mod TwoLists
