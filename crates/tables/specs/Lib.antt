pub mod Shop
pub mod Copies
pub mod ByTitle
pub mod Format
pub mod Told
pub mod Tally
pub mod Demand1
pub mod History
