pub mod Made
pub mod Sized
pub mod Whole
pub mod Leaving
pub mod Prepared
pub mod Begun
pub mod Receipt
