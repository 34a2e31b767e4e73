pub mod LaneEnds
pub mod Homes
pub mod Ends
pub mod Rooms
pub mod Plans
pub mod Asked
pub mod Peers
pub mod Making
