pub mod Forms
pub mod Indexed
pub mod Asked
pub mod SavedLines
pub mod Shown
pub mod TextFiles
pub mod CutSymbols
