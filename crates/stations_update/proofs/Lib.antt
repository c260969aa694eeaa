pub mod Laying
pub mod Moving
pub mod Answers
