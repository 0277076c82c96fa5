pub mod Sheet
pub mod Demand1
pub mod Shows
pub mod History
