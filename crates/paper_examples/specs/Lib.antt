-- Examples 1 to 8, of the definitions that the calls are held to; and, as one claim, of every table.
pub mod Examples
pub mod Promises
