-- Which nodes of a table's cube reach a target over enabled links, as the sweep marks them.
pub mod Marks
