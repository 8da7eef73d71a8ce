pub mod Posted
pub mod Makers
pub mod Rows
