pub mod OfLines
pub mod Cuts
pub mod Boxes
pub mod Fronts
pub mod Named
pub mod TextForms
