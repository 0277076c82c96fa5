pub mod Text
pub mod Forms
