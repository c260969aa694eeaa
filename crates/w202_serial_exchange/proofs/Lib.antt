pub mod Apart
pub mod SerialExchange
