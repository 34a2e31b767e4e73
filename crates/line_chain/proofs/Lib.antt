pub mod Replies
pub mod Starts
pub mod Running
pub mod Books
pub mod Lines
pub mod Sending
