-- Links that a send cannot take, counted, and how few of them cannot stop it.
pub mod Faults
pub mod Theorems
pub mod OnTables
