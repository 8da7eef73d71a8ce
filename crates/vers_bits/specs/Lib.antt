pub mod Bits
pub mod Equality
pub mod Makers
pub mod Masks
pub mod Laws
pub mod Walk
pub mod Rows
pub mod inside
