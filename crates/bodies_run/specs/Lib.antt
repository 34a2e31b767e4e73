pub mod Ends
pub mod Islands
pub mod Bodies
pub mod Begun
pub mod Leaving
pub mod Counts
