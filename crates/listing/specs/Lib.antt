-- The printed list: the whole of it, from what its lines ask and show; and what it promises.
pub mod Listing
pub mod Before
pub mod Sentences
pub mod Printed
pub mod Examples
pub mod Promises
