-- Replies: which answer of `model` each is, how long it is, and what the writers write; and the statuses.
pub mod Statuses
pub mod Writes
pub mod Replies
