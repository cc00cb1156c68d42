pub mod Path
pub mod Choice
pub mod Witness
pub mod Text
pub mod Sides
