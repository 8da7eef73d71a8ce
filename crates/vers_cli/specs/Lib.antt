pub mod Answers
pub mod Holding
pub mod Lists
pub mod Loads
pub mod Names
pub mod Rows
pub mod Rules
