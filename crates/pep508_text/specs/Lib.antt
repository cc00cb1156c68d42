pub mod Class
pub mod Run
pub mod Suffix
