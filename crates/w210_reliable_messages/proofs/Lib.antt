pub mod Tests
pub mod Delivering
pub mod Exchange
pub mod ReliableMessages
