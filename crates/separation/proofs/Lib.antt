-- The separation of holders over the entries' own promises.
pub mod Contracts
pub mod SeparationOfCalls
pub mod EveryTrace
pub mod MetByCalls
