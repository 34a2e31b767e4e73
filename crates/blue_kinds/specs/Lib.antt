pub mod Functions
pub mod Kinds
pub mod Steps
