-- What a send makes of the answer of its search.
pub mod ByWaiting
