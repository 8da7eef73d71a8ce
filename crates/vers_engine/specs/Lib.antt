pub mod Lines
pub mod Answers
pub mod Replies
pub mod Rows
pub mod inside
