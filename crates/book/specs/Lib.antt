-- A book of circuits: what its two buffers hold, when it is well formed, and what a lookup in it gives.
pub mod Book
pub mod BookOf
pub mod Lookup
pub mod WellFormed
pub mod BookContracts
