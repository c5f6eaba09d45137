-- What a member may learn: every list of calls is alike to itself (Alike); alike calls are equal without what is hidden
-- (Hidden); what a member can know of a room (Known), that this goes on by itself at every call (Steps), and so that two runs
-- show it the same (Learned). Of a session it knows the claims that are held, too; they go on by themselves (Claims), and two
-- sessions show it the same (LearnedInSessions).
pub mod Alike
mod Hidden
mod Known
mod OwnRows
mod InputChecks
mod Endings
mod OthersCalls
mod OwnCalls
mod Steps
pub mod Learned
mod Claims
pub mod LearnedInSessions
