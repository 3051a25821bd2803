-- The laws of commands: their kinds and slots, how often fields are given, their children, the places noted of them, and where each
-- field stands.
pub mod KindLaws
pub mod TimesLaws
pub mod ChildLaws
pub mod SlotLaws
pub mod ParseLaws
