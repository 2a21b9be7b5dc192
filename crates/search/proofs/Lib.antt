-- The laws of a pass on the bytes of a table.
pub mod Narrow
pub mod PortsTried
pub mod Arrivals
pub mod Sends
