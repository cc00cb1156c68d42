pub mod Expression
pub mod Found
pub mod ValueSet
pub mod Python
pub mod Extras
pub mod Granting
pub mod Simplified
