-- What only proofs and private functions need: no contract of a public function cites a word of it.
pub mod Telling
pub mod InvertedTelling
pub mod SortedParts
pub mod TextParts
