pub mod Line
pub mod Kinds
pub mod Steps
pub mod Chains
