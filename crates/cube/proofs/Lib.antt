-- The laws of the cube that the functions' proofs and the crates above cite.
pub mod Bits
pub mod Circuits
pub mod Ports
pub mod Order
pub mod FirstPort
pub mod Axes
pub mod Examples
pub mod PortsLeft
pub mod PartnerPorts
pub mod PortsInside
