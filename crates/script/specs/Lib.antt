-- What a script says and what it is answered, a file a topic.
pub mod Chosen
pub mod Words
pub mod Number
pub mod Readers
pub mod Parts
pub mod Grammar
pub mod SettingRefusal
pub mod Setup
pub mod Range
pub mod Told
pub mod Answer
pub mod Misread
pub mod Reply
pub mod Shown
pub mod Explain
pub mod Write
pub mod Fits
