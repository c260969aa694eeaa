pub mod LastSender
