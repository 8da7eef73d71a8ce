pub mod Name
pub mod Fasta
pub mod Sites
pub mod TextLines
pub mod Rules
pub mod Answers
pub mod Rows
