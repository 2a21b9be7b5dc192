-- What closing frees.
pub mod Release
