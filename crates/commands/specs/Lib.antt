-- What the commands decide, in the words of `model`.
pub mod Decisions
pub mod Callers
