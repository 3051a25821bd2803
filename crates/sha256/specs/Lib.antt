-- Hash values in the words of `model`.
pub mod Views
