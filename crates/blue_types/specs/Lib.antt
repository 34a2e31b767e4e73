pub mod Library
pub mod Net
pub mod News
pub mod Would
