-- What the writers count and write, in the words of `model`.
pub mod Lengths
pub mod Parts
pub mod Fields
