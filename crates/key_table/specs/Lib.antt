-- Tables by value in the words of `model`.
pub mod Views
pub mod Forms
