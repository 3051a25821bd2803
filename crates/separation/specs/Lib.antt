-- Calls of the entries one after another.
pub mod Calls
