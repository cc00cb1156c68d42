pub mod Formatting
pub mod Replacing
pub mod Same
pub mod Applying
pub mod Finding
