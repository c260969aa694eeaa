pub mod InC
