pub mod Islands
pub mod Telling
