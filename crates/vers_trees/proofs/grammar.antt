pub mod Excess
pub mod Paired
pub mod Pairs
pub mod Grammar
