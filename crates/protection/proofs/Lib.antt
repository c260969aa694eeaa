pub mod Hashed
pub mod Repeats
pub mod RoundTrip
pub mod Replay
pub mod Answers
pub mod Bytes
