pub mod Laws
pub mod Noting
pub mod Removing
pub mod Forgotten
