pub mod Lists
pub mod Gathered
pub mod Uniqueness
pub mod Joints
pub mod ManyLists
pub mod PublicLaws
