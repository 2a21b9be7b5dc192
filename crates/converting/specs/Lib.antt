-- A table written in the other layout: what the table written is, what the calls answer, and what that comes to in plain words.
pub mod Converted
pub mod ConvertSays
pub mod Promises
pub mod ConvertContracts
pub mod Examples
