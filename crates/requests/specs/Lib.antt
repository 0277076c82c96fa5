pub mod Number
pub mod Request
pub mod Values
pub mod Forms
