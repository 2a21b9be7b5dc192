-- The values that writing a book answers; and what a table's own book promises.
pub mod BookedValues
pub mod Promises
