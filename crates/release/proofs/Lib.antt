-- The laws of freeing.
pub mod Releasing
