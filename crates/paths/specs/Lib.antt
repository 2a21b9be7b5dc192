-- What a send means: Paths, Order, Searches and Scouts over any network; then the cube as one.
pub mod Network
pub mod Permitted
pub mod Pass
pub mod Helix
pub mod Send
pub mod Sentences
pub mod CubeNetwork
pub mod BoardPorts
pub mod OldRule
pub mod Search
pub mod Waiting
pub mod Reach
pub mod Between
pub mod Bound
pub mod Recover
pub mod HelixLinks
pub mod LinksLeft
