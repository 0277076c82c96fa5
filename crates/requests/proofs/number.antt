pub mod Laws
pub mod Lengths
pub mod Reading
pub mod Refused
