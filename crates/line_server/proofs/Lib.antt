pub mod PortLaws
pub mod LineLaws
pub mod ServingLaws
pub mod ServeLaws
