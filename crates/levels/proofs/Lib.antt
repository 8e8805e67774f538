-- The laws of `levels`. What the two conversions write is one record, in `ByLevel`.
pub mod Theory
pub mod Files
pub mod Finding
pub mod Calls
pub mod ByLevel
pub mod Examples
