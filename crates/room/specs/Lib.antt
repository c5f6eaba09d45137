-- What a room means, a file a topic: the world it stands in, its state, and each of its calls as a function
-- from the state and what is handed in to the next state and the answer.
pub mod World
pub mod Refusals
pub mod State
pub mod Checks
pub mod Checked
pub mod Clock
pub mod Openings
pub mod Responses
pub mod Ticks
pub mod Halts
pub mod Looks
pub mod Collecting
pub mod Counts
pub mod Waiting
pub mod Storing
pub mod Rooms
pub mod Parts
pub mod Calls
