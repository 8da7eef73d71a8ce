pub mod FastaLines
pub mod Feeds
