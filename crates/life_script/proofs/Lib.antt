pub mod CheckLemmas
pub mod HeaderLemmas
pub mod HeaderMaps
pub mod ReadingLemmas
pub mod ReadingParts
pub mod Requests
pub mod Targets
