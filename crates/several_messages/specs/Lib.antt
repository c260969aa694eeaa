pub mod SeveralMessages
