-- What stands at a place of a stretch, and what was written there, in the words of `model`.
pub mod Numbers
pub mod Heads
pub mod Spans
pub mod Writing
pub mod Rows
pub mod Firsts
pub mod RowsOf
