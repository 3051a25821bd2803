-- The laws of the exported entries.
pub mod EntryLaws
pub mod WrittenLaws
pub mod ResponseLaws
pub mod RoundTrip
pub mod CommandTrip
