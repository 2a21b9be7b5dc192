-- The book of a table's circuits, written circuit by circuit.
pub mod Writing
pub mod OpenLeft
