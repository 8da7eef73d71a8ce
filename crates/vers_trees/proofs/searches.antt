pub mod Searches
pub mod Scans
pub mod ByteScans
pub mod WordScans
pub mod PartNodes
pub mod Bytes
pub mod Finds
pub mod Beside
