pub mod Buffers
pub mod Finishes
pub mod Pushes
pub mod Rows
pub mod MachineNodes
pub mod Handling
pub mod Following
