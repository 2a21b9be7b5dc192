-- The hops of one circuit to a node, and the marks of the circuits that were followed.
pub mod Seen
pub mod CountHops
