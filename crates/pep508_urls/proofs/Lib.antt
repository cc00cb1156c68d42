pub mod ExtrasLaws
pub mod FileUrlLaws
pub mod Fronts
pub mod PathLaws
pub mod SchemeLaws
pub mod VariableLaws
pub mod VerbatimLaws
