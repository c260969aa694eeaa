pub mod Cases
pub mod OwnNetwork
pub mod ReachCases
pub mod OwnReach
