-- Lists, counts and nesting: what the other laws are written with.
pub mod Members
pub mod Counting
pub mod Nesting
pub mod Known
