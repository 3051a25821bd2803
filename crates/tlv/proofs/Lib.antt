-- The laws of numbers, headers, runs and writes: over every width, every place and every length.
pub mod NumberLaws
pub mod WidthLaws
pub mod HeadLaws
pub mod SameLaws
pub mod WriteLaws
pub mod RowLaws
pub mod FirstLaws
