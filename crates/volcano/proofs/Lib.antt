-- The laws of `volcano`. What is chosen is one record, in `Choices`.
pub mod Floats
pub mod Judging
pub mod Choices
pub mod Examples
