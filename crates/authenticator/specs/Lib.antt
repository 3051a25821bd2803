-- What a call says and leaves, and what a withdrawal is lent, in the words of `model`.
pub mod Outcomes
pub mod Withdrawing
