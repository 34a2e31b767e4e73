pub mod Cutting
pub mod Wiring
pub mod Restricting
pub mod Seating
pub mod Wholes
pub mod Joining
pub mod Splitting
mod Starting
pub mod Behind
pub mod EndsJoining
pub mod Misfits
pub mod Leaving
pub mod Listing
pub mod OfNodes
pub mod Sharing
