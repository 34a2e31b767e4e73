pub mod LaneRooms
mod Lying
pub mod LaneMaking
pub mod Numbered
pub mod Listing
pub mod Standing
pub mod Islands
pub mod LaneHomes
pub mod Bodies
pub mod Making
pub mod Noting
pub mod Tables
pub mod Pairing
