-- What only proofs and private functions need: no contract of a public function cites a word of it.
pub mod Suffixes
pub mod Building
pub mod Checking
pub mod Paths
pub mod Samples
pub mod Groups
