pub mod Elements
pub mod Finding
pub mod Order
pub mod Walking
