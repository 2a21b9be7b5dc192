-- The laws of the table.
pub mod Views
pub mod CubeRows
pub mod Fits
pub mod Rows
pub mod Made
pub mod Making
pub mod Folds
pub mod Encode
pub mod Encoded
pub mod Receives
pub mod Examples
