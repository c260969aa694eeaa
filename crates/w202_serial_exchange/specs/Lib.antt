pub mod SerialExchange
