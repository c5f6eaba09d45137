-- The interval source of these examples, and an auction by a room's own methods.
pub mod Counting
pub mod Collected
