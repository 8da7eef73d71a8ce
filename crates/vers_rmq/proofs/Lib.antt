pub mod Names
pub mod Logs
pub mod Minima
pub mod Tables
pub mod Masks
pub mod Blocks
pub mod Found
pub mod PublicLaws
