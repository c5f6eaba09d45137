-- Halting, resuming, and the clock call. Halting a halted room and resuming a running one are accepted.
use Rattle.std.specs.Prelude.{ℕ, true, false, Ok, Result}
use Rattle.std.specs.Str.{byte}
use Rattle.room.specs.Checks.{time_checks}
use Rattle.room.specs.Clock.{timed_call}
use Rattle.room.specs.Refusals.{RefusalTold}
use Rattle.room.specs.State.{RoomState, with_halted, after_end}

module _ {P F Q : Type 0} where
  -- Halting ends an open auction, cause H.
  abbrev pub halt_call : RoomState P Q → ℕ → RoomState P Q × Result (Unit {0}) (RefusalTold F)
  halt_call s time = timed_call (time_checks time) s time (λ u. (with_halted true (after_end (byte "H") u), Ok tt))

  abbrev pub resume_call : RoomState P Q → ℕ → RoomState P Q × Result (Unit {0}) (RefusalTold F)
  resume_call s time = timed_call (time_checks time) s time (λ u. (with_halted false u, Ok tt))

  -- The clock step and nothing else.
  abbrev pub clock_call : RoomState P Q → ℕ → RoomState P Q × Result (Unit {0}) (RefusalTold F)
  clock_call s time = timed_call (time_checks time) s time (λ u. (u, Ok tt))
