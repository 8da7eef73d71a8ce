pub mod Symbols
pub mod Rows
pub mod Reads
pub mod Makers
pub mod Laws
pub mod Batches
pub mod Numbers
pub mod inside
