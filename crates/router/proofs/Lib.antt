-- What a call comes to.
pub mod TableStep
