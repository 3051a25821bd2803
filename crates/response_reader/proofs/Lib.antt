-- The laws of the response reader: the walk over a response, its shapes, its list of names, where the fields of each shape stand.
pub mod MetLaws
pub mod OpeningLaws
pub mod ShapeLaws
pub mod SignedLaws
pub mod ReadingLaws
pub mod NameLaws
pub mod LaidLaws
pub mod ShapedLaws
pub mod NamingLaws
