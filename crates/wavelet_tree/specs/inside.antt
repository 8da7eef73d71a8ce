-- What only proofs and private functions need: no contract of a public function cites a word of it.
pub mod Nodes
pub mod Growing
pub mod Batches
pub mod Rebuilding
pub mod Reading
