pub mod WrongNodes
