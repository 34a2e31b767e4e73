pub mod Cut
pub mod Fault
pub mod Line
pub mod Names
pub mod Numbers
pub mod Reading
