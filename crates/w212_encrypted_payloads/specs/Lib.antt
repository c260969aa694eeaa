pub mod EncryptedPayloads
