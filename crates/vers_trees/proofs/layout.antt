pub mod MinMax
pub mod Blocks
pub mod Build
pub mod Widths
pub mod Climbs
pub mod Steps
pub mod Building
