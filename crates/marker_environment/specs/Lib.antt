pub mod Written
pub mod Substring
pub mod Valuation
pub mod Environment
pub mod Deserialized
