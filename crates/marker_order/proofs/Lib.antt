pub mod Agreements
pub mod AlikeLaws
pub mod OrderLaws
pub mod TruthLaws
pub mod TurnLaws
