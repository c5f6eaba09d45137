-- What a day's script says and comes to, a file a topic.
pub mod Source
pub mod Lines
pub mod Reading
pub mod Calls
pub mod CarriedOut
pub mod Notes
pub mod Ends
pub mod Member
pub mod Whole
pub mod Fills
pub mod Alike
