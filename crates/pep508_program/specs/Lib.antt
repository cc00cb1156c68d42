pub mod Reporting
pub mod Status
pub mod Kinds
