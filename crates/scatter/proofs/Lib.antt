pub mod Sharing
pub mod Putting
