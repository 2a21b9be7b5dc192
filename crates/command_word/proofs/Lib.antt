-- The laws of command words that the functions' proofs cite, and the theorems about reading and writing.
pub mod Values
pub mod Named
pub mod Answers
pub mod Theorems
pub mod Examples
