-- What a call by value, and a withdrawal by value, says and leaves.
pub mod Runs
pub mod Withdrew
