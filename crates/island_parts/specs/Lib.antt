pub mod Whole
pub mod Split
pub mod Starts
pub mod Ends
pub mod Room
