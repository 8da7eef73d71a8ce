pub mod Names
pub mod Elements
pub mod Positions
pub mod Sharing
pub mod Paired
