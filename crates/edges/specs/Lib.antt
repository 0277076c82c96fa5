pub mod Baskets
pub mod Cases
