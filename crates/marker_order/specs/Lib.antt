pub mod Agreement
pub mod Order
pub mod Laws
pub mod Turns
