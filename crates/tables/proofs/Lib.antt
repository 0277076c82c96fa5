pub mod Fresh
pub mod Counting
pub mod PerTitle
pub mod Three
pub mod Told
pub mod Demand1
pub mod History
