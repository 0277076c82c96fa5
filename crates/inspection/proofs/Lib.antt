pub mod Vacant
pub mod Version
pub mod Counted
pub mod Demand1
pub mod History
