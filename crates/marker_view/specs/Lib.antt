pub mod PlainNodes
pub mod Branch
pub mod Dnf
pub mod Readable
pub mod Text
pub mod View
