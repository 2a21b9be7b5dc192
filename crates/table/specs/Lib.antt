-- The table: what its bytes show, and the bytes that show it.
pub mod View
pub mod Folding
pub mod Encode
pub mod TableContracts
