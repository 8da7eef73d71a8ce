pub mod Names
pub mod Adding
pub mod Halves
pub mod Logs
pub mod Steps
pub mod Made
pub mod PublicLaws
