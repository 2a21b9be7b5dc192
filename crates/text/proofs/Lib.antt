-- Laws of texts.
pub mod Writing
pub mod Digits
pub mod Reading
pub mod Cuts
pub mod Fields
pub mod Rows
pub mod ReadBack
pub mod Separated
