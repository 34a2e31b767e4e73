pub mod Drops
pub mod Droppings
pub mod Recovers
pub mod Recoverings
