-- The laws of the bytes of a table.
pub mod Entries
pub mod Folds
pub mod Runs
pub mod Rows
pub mod Masks
pub mod Parts
pub mod Examples
