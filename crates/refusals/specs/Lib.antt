pub mod Before
pub mod Ledger
