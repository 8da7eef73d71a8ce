-- The words of all public contracts and laws. The last word of a line is the name to import from: `Rattle.vers_vecs.specs.Bits.{count}`.

-- lists of bits
pub use Rattle.vers_bits.specs.Bits
pub use Rattle.vers_bits.specs.Equality
pub use Rattle.vers_bits.specs.Masks
pub use Rattle.vers_bits.specs.Makers
pub use Rattle.vers_bits.specs.Walk
pub use Rattle.vers_bits.specs.Laws as BitsLaws
pub use Rattle.vers_bits.specs.declared.bit_vec.fault.GrowError as GrowErrors
pub use Rattle.vers_bits.specs.declared.bit_vec.fault.SplitCause as SplitCauses
-- counters of reads
pub use Rattle.vers_tally.specs.Reads
pub use Rattle.vers_tally.specs.Ends
pub use Rattle.vers_tally.specs.Laws as TallyLaws
-- lists of bits with ranks and selects
pub use Rattle.vers_rank.specs.Queries
pub use Rattle.vers_rank.specs.Walks
pub use Rattle.vers_rank.specs.Laws as RankLaws
-- ascending lists and sparse lists of bits
pub use Rattle.vers_sorted.specs.Sorted
pub use Rattle.vers_sorted.specs.Ones
pub use Rattle.vers_sorted.specs.Layout
pub use Rattle.vers_sorted.specs.Laws as SortedLaws
-- range minima
pub use Rattle.vers_rmq.specs.Minima
pub use Rattle.vers_rmq.specs.Ranges
pub use Rattle.vers_rmq.specs.Makers as MinimaMakers
pub use Rattle.vers_rmq.specs.Layout as MinimaLayout
pub use Rattle.vers_rmq.specs.Laws as MinimaLaws
-- trees of parentheses
pub use Rattle.vers_trees.specs.Excess
pub use Rattle.vers_trees.specs.Bytes
pub use Rattle.vers_trees.specs.Forest
pub use Rattle.vers_trees.specs.Balance
pub use Rattle.vers_trees.specs.Nodes
pub use Rattle.vers_trees.specs.Relatives
pub use Rattle.vers_trees.specs.Traversals
pub use Rattle.vers_trees.specs.WalkReads as TreesWalkReads
pub use Rattle.vers_trees.specs.WalkLaws as TreesWalkLaws
pub use Rattle.vers_trees.specs.LevelWalks
pub use Rattle.vers_trees.specs.NodeLaws as TreesNodeLaws
pub use Rattle.vers_trees.specs.BalanceLaws as TreesBalanceLaws
pub use Rattle.vers_trees.specs.ReadLaws as TreesReadLaws
pub use Rattle.vers_trees.specs.Layout as TreesLayout
pub use Rattle.vers_trees.specs.Laws as TreesLaws
-- lists of symbols
pub use Rattle.vers_wavelet.specs.Symbols
pub use Rattle.vers_wavelet.specs.Makers as SymbolsMakers
pub use Rattle.vers_wavelet.specs.Numbers as SymbolsNumbers
pub use Rattle.vers_wavelet.specs.Reads as SymbolsReads
pub use Rattle.vers_wavelet.specs.Laws as SymbolsLaws
