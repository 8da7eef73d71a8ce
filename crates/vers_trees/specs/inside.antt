-- What only proofs and private functions need: no contract of a public function cites a word of it.
pub mod MinMax
pub mod Index
pub mod Scans
pub mod Bytes
pub mod Closed
pub mod Rows
