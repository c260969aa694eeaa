pub mod Once
pub mod EncryptedPayloads
