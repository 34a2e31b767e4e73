pub mod Chains
pub mod LineChains
