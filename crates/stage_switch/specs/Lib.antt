pub mod Sums
pub mod Rule
pub mod Public
pub mod Valves
pub mod States
pub mod Handling
pub mod Settling
