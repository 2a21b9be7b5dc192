-- The command word: its fields and its command list, what reading and writing answer, and why either is refused.
pub mod Commands
pub mod Kinds
pub mod Word
pub mod Reasons
