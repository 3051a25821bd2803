-- The laws of tables by value: their view as records, the rules, spare bytes, and the stored form both ways.
pub mod ViewLaws
pub mod RuleLaws
pub mod TidyLaws
pub mod StoreLaws
pub mod LoadLaws
