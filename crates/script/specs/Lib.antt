-- What the sum of a stretch is.
pub mod Adler
