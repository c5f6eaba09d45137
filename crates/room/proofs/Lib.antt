-- What a room's calls keep and do: small facts on tests (Tests), what follows of a request that passes its checks (InsideLimits),
-- and that an auction's values stay in order (Sound).
pub mod Tests
pub mod InsideLimits
pub mod Sound
pub mod Counting
mod CarriedOut
mod NewAuctions
mod OneWaits
mod Collected
