pub mod Inspect
pub mod Demand1
pub mod History
