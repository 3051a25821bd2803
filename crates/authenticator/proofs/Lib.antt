-- The laws of the code of a call and of a withdrawal.
pub mod CallLaws
pub mod WithdrawLaws
