pub mod Laws
pub mod Sets
pub mod Steps
pub mod Sources
pub mod Rows
pub mod inside
