-- The laws of links that fail.
pub mod HelixApart
pub mod Counted
pub mod FreeHelix
pub mod Folded
pub mod LinksOut
pub mod OnTables
pub mod Examples
