pub mod Cases
pub mod Laws
pub mod Longest
pub mod Loops
pub mod AsNumbers
pub mod Reading
pub mod Writing
