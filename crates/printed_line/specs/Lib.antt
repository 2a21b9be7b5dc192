-- The printed line of an input line.
pub mod PrintedLine
pub mod LineContracts
