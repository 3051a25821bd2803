-- The laws of the commands: what their checks read, and what they decide.
pub mod JudgeLaws
pub mod DecisionLaws
pub mod SignLaws
pub mod CallerLaws
