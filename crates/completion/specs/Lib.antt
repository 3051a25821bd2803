-- A completion from the parameters that carry it, its kind by number, and what its response begins with.
pub mod Completions
