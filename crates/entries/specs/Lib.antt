-- One value of a table at a time.
pub mod EntryContracts
