-- What the loops that find levels, put regions in order and look at their places keep: `leveling`, `ordering` and `placing`.
pub mod LevelLaws
pub mod OrderLaws
pub mod PlaceLaws
