pub mod Stepping
pub mod Walking
pub mod Alike
pub mod Faults
