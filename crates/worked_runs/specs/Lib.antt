-- Worked runs of a room, a file a topic. Each is a script: calls, and beside each the answer that it gets.
pub mod Script
pub mod Rooms
pub mod Causes
pub mod Figures
pub mod Refusals
pub mod Rules
pub mod Intervals
pub mod Histories
pub mod Learning
