pub mod LevelNodes
pub mod NodeLaws
