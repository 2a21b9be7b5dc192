-- Paths in a cube with other fold masks and other free links; then two tables; then calls on one.
pub mod Paths
pub mod HelixPaths
pub mod Pairs
pub mod Calls
pub mod FoldingHurts
