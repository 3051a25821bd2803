-- The laws of a table in its stored form.
pub mod IndexLaws
pub mod RunLaws
pub mod LoadLaws
pub mod LookupLaws
pub mod NewestLaws
pub mod ChangeLaws
pub mod LeftLaws
pub mod NameLaws
