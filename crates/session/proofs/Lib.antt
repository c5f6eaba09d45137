-- The laws over whole runs: what a member may learn (Learning), what looks tell (Looking), when an auction ends (Ending),
-- how contracts are shared (Sharing), why calls are answered as they are (Reasons), and all of them (RunLaws). And the
-- whole promise of calls that are carried out: it follows from what the model has (Promises), and it is kept by calls of a
-- room's methods (InTurn) and by those at a desk (DeskInTurn).
pub mod Learning
pub mod Ending
mod Inputs
mod Linked
pub mod Looking
pub mod Reasons
pub mod Sharing
pub mod RunLaws
mod Choices
mod Purses
pub mod Claims
pub mod Closing
mod RowLists
mod Collecting
mod SessionState
pub mod Promises
pub mod InTurn
pub mod DeskInTurn
