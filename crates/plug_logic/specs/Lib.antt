pub mod Gives
pub mod Shipped
