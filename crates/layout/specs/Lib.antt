-- The bytes of a table: where each value lies in them, and how it is read there.
pub mod Layout
pub mod LayoutContracts
pub mod Resources
