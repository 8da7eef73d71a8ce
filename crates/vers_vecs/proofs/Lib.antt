-- The pages of laws that proofs may cite, of each crate that has one.
pub use Rattle.vers_bits.proofs.PublicLaws as BitsLaws
pub use Rattle.vers_tally.proofs.PublicLaws as TallyLaws
pub use Rattle.vers_sorted.proofs.PublicLaws as SortedLaws
pub use Rattle.vers_rmq.proofs.PublicLaws as MinimaLaws
pub use Rattle.vers_trees.proofs.PublicLaws as TreesLaws
pub use Rattle.vers_wavelet.proofs.PublicLaws as SymbolsLaws
