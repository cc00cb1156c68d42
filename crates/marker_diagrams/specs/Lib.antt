pub mod Id
pub mod Diagram
pub mod Residue
pub mod Laws
pub mod Word
