-- The laws of conversions.
pub mod Copied
pub mod ConvertNumbers
pub mod Alike
pub mod Answering
pub mod SaysExactly
pub mod Unfolded
