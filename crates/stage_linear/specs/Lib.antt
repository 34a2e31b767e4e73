pub mod Plugs
pub mod Workers
pub mod States
pub mod Pending
pub mod Outcomes
pub mod Handling
