pub mod Reading
pub mod Hearing
pub mod Originating
pub mod Relaying
pub mod TwoEditions
