pub mod DistInfo
pub mod Fronts
pub mod IdentifierLaws
pub mod NameLaws
pub mod NormalLaws
