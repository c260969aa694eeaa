pub mod Boxes
pub mod OneCommand
pub mod Worked
