pub mod TableLaws
pub mod NameLaws
pub mod LinkLaws
pub mod EndLaws
pub mod FaultLaws
pub mod ExpansionLaws
