-- Laws of what a line asks.
pub mod Asking
pub mod Letters
pub mod Examples
