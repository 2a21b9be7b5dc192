-- The laws of the most scouts.
pub mod Sums
pub mod Walks
pub mod Axes
pub mod Weight
pub mod Within
pub mod Sends
pub mod Blocked
pub mod Numbers
pub mod OnTable
pub mod Walled
pub mod Reached
pub mod Made
pub mod MadeFolded
pub mod Reaching
