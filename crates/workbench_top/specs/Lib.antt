pub mod Task
pub mod Comments
pub mod Answer
pub mod Rows
pub mod Files
pub mod Call
pub mod Process
