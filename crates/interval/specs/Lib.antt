-- The rules of interval sources, a file a topic.
pub mod Refusal
pub mod Source
pub mod Fixed
pub mod Stepping
