-- The laws of completion: what the writers wrote, what a draft and its seal are, and what the function gives.
pub mod WriterLaws
pub mod CompletionLaws
