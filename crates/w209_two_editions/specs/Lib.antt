pub mod TwoEditions
