-- The cube: nodes, ports and circuits, the ports of a vector and the order in which they are tried.
pub mod Bits
pub mod Axes
pub mod Cube
pub mod Helical
pub mod CubeContracts
pub mod Boards
pub mod RoutingTypes
pub mod PortsLeft
