-- The computed tables and traces; docs/MAP.md says which sentence of document 01 each holds.
pub mod Conditions
pub mod Examples
pub mod Hashes
pub mod Limits
pub mod LimitsRead
pub mod Names
pub mod Writes
