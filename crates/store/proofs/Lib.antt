-- The theorem about events on several tables, the one about a single table that follows from it, and that what is known after an event is what the plain words say.
pub mod TablesRead
pub mod Stores
pub mod OneTable
pub mod Learns
