pub mod Tasks
pub mod Keeping
pub mod Endings
pub mod Means
pub mod Slots
pub mod LineChains
