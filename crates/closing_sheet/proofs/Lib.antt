pub mod Demand1
pub mod Sample
pub mod Shows
pub mod History
