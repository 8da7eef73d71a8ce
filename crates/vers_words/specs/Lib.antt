pub mod Text
pub mod Arguments
pub mod Loading
pub mod Names
pub mod Patterns
pub mod Laws
pub mod Reply
pub mod Rows
