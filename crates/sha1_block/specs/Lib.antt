pub mod Sha1Block
