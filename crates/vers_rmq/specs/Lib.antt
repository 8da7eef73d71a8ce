pub mod Minima
pub mod Layout
pub mod Ranges
pub mod Makers
pub mod Laws
pub mod Rows
pub mod inside
