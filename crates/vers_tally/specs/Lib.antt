pub mod Reads
pub mod Ends
pub mod Laws
pub mod Rows
pub use Rattle.vers_bits.specs.Bits
