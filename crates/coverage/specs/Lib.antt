pub mod Hearing
pub mod Delivery
pub mod Reach
pub mod Marks
pub mod ByLengths
pub mod Cases
