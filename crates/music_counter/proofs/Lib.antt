pub mod Places
pub mod Effects
pub mod Answers
pub mod Serving
pub mod Basket
pub mod Formatted
pub mod SampleRun
pub mod History
