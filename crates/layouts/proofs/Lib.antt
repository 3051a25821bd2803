-- The laws of structures read from place to place.
pub mod PlaceLaws
mod LeafLaws
pub mod SizeLaws
