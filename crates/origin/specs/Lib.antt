pub mod Origination
