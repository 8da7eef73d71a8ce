pub mod Lists
pub mod Makers
pub mod Numbers
pub mod Laws
pub mod Rows
pub mod inside
