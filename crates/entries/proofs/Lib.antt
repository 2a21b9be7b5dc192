-- The laws of the masks of a node.
pub mod EnableBits
