-- The definitions that the promises of the curve program are written with.
pub mod Text
pub mod Program
pub mod Buffers
pub mod Private
