-- More freedom never hurts: what one table leaves an open that another does, calls that take nothing from it, and the promises.
pub mod Freedom
pub mod Promises
pub mod Examples
