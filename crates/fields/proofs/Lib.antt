-- What a size says of a value, and a result of what a function says.
pub mod FieldLaws
pub mod RefusalLaws
