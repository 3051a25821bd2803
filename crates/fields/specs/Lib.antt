-- The code's fields in the words of `model`, and what a function with one output says.
pub mod Fields
pub mod Refusals
