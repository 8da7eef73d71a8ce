pub mod Names
pub mod grammar
pub mod kin
pub mod levels
pub mod walks
pub mod searches
pub mod layout
pub mod PublicLaws
