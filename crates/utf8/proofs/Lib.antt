-- Well-formed UTF-8 judged place by place.
pub mod PlaceLaws
pub mod WindowLaws
pub mod CharLaws
pub mod CodeLaws
