pub mod Names
pub mod Batches
pub mod Boxes
pub mod Counted
pub mod NumberSets
mod OwnerBoxes
pub mod SymbolAnswers
pub mod TextBuilds
