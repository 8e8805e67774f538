-- What the bytes of a file by level say, and what is written over an output.
pub mod Listed
pub mod LevelFiles
pub mod Written
pub mod WritingLaws
pub mod Placing
