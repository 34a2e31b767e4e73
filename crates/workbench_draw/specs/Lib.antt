pub mod Judging
pub mod Message
pub mod Drawing
pub mod Carried
pub mod Turns
pub mod Units
