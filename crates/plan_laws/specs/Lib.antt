pub mod Sure
pub mod Unread
