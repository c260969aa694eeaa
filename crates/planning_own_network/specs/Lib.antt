pub mod Cases
pub mod OwnNetwork
pub mod OwnReach
