pub mod Deciding
pub mod Laying
