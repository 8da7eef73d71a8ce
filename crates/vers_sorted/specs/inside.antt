-- What only proofs and private functions need: no contract of a public function cites a word of it.
pub mod Parts
pub mod Buckets
pub mod Begun
pub mod Ahead
pub mod Passed
pub mod Gathered
pub mod Decoding
