-- What the causes of a file by level say, how they are judged, and what the two calls answer and write.
pub mod LevelCauses
pub mod Judging
pub mod Conversions
