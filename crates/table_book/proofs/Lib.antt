-- The laws of writing a table's book.
pub mod BookFrom
pub mod Filling
pub mod EmptyNodes
pub mod NumbersLeft
pub mod OpenLeft
pub mod UnheldRest
