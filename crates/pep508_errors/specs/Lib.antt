pub mod Error
pub mod Kinds
pub mod Underline
pub mod Url
