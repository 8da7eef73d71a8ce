-- What only proofs and private functions need: no contract of a public function cites a word of it.
pub mod Levels
pub mod Counts
pub mod Walks
pub mod Batches
pub mod Ways
pub mod Nearest
pub mod Makers
