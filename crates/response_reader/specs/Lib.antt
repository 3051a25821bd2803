-- What the response reader gives, in the words of `model`.
pub mod Met
pub mod Responses
pub mod Shapes
pub mod Readings
pub mod Laid
