pub mod Sorted
pub mod Ones
pub mod Layout
pub mod Laws
pub mod Rows
pub mod inside
pub use Rattle.vers_tally.specs.Ends
