pub mod Ctr
