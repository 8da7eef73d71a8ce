-- What only proofs and private functions need: no contract of a public function cites a word of it.
pub mod Batches
pub mod ByteOnes
pub mod Index
pub mod Offsets
pub mod Walks
