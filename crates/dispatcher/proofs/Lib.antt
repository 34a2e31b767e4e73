pub mod Totals
pub mod Keeps
pub mod Closing
pub mod BudgetKeeps
pub mod Crossing
pub mod Lists
pub mod Taking
pub mod Boxes
