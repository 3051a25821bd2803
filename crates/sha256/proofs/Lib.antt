-- A turn of each loop, the buffer, the last blocks, and a message in two parts.
pub mod ScheduleLaws
pub mod BlockLaws
pub mod BufferLaws
pub mod PaddingLaws
pub mod PartLaws
