pub mod Partners
pub mod NodeList
pub mod Kin
