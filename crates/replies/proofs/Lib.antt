-- The laws of replies: what the writers wrote, and how long a reply is.
pub mod WriterLaws
pub mod PairLaws
pub mod ReplyLaws
