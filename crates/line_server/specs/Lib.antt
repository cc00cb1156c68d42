pub mod Fault
pub mod Ports
pub mod Lines
pub mod Serving
