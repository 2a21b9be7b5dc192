-- Examples 1 to 8 on tables.
pub mod OnTables
