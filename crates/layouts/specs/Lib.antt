-- Structures read from place to place.
pub mod Places
pub mod Groups
