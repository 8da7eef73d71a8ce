pub mod Ranks
pub mod Rows
pub use Rattle.vers_bits.specs.Bits
pub use Rattle.vers_tally.specs.Reads
pub mod inside
