-- The laws of following helix paths on the bytes of a table.
pub mod Following
pub mod HelixSends
