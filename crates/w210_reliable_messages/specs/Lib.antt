pub mod Worked
pub mod ReliableMessages
