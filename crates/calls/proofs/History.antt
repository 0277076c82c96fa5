pub mod Totals
pub mod Titles
pub mod Step
pub mod Calls
pub mod Always
