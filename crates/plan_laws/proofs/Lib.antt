pub mod Serving
pub mod Hubs
pub mod Recovers
pub mod Valves
pub mod Buffers
pub mod Substreams
pub mod Unread
