pub mod Names
pub mod Splits
pub mod Lines
pub mod Steps
pub mod Ends
