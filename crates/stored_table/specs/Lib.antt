-- A table in its stored form, where it lies.
pub mod Stored
pub mod Index
pub mod Chosen
pub mod Changes
pub mod Newest
