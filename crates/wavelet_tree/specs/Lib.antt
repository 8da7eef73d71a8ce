pub mod Trees
pub mod Queries
pub mod Laws
pub use Rattle.vers_tally.specs.Reads
pub use Rattle.vers_wavelet.specs.Symbols
pub mod inside
