-- The worked figures of markets and of sharing, in one list.
pub mod Figures
