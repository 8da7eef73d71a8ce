pub mod Lists
pub mod ListsOfNodes
pub mod WalksOfNodes
