-- The laws of the writers of commands: how many bytes fields take, when there is a refusal, and what the parts of a command are.
pub mod LengthLaws
pub mod HandleLaws
pub mod PartLaws
pub mod WriterLaws
