pub mod Steps
pub mod WrongNodes
