-- When an auction ends. Every call has one of six shapes (Shapes). An
-- auction's life (Lives) goes on at each call: apart from the open auction's (Elsewhere), and the open one's, which ends
-- exactly for its causes (Fates). With the counts (Counted) that gives what holds at every moment of a run (Held), and
-- from it the laws (Laws), and that the room holds what its history tells (AsTold).
pub mod Apart
pub mod Shapes
mod Waiting
pub mod Lives
pub mod Moves
pub mod Elsewhere
mod Fates
mod Counted
mod HowManyWait
pub mod Held
pub mod Laws
pub mod AsTold
