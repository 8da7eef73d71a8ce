pub mod Texts
pub mod Makers
pub mod Columns
pub mod Sizes
pub mod Rows
pub mod Laws
pub mod inside
