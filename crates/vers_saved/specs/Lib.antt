pub mod Format
pub mod Faults
pub mod Kinds
pub mod Streams
pub mod TextForms
pub mod Laws
pub mod Rows
pub mod inside
