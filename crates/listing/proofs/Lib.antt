-- Laws of the printed list.
pub mod EightFields
pub mod Refusals
pub mod TracedPath
pub mod Fitting
pub mod Remaining
pub mod Agreeing
pub mod Before
pub mod ShownPath
