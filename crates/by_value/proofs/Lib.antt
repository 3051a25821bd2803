-- The laws of a call and of a withdrawal by value.
pub mod LeftLaws
pub mod RunLaws
pub mod WithdrawLaws
