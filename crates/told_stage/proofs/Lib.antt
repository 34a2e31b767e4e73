pub mod Lifting
pub mod Types
