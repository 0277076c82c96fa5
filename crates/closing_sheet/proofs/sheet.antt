pub mod Laws
pub mod Refusals
