-- What the firmware gets back.
pub mod Returned
pub mod Written
pub mod Responses
