pub mod Naming
mod Gathering
mod PortNames
mod Scoping
