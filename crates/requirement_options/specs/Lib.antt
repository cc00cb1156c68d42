pub mod Kinds
pub mod Arguments
pub mod Forms
pub mod Reading
pub mod Found
pub mod Line
pub mod Content
