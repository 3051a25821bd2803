-- Commands as the code reads them, in the words of `model`.
pub mod Kinds
pub mod Slots
pub mod Children
pub mod Parse
pub mod Lent
