pub mod Routes
pub mod Throttles
pub mod Joins
