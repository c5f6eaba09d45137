-- The clock step, with which every timed call begins.
use Rattle.std.specs.Prelude.{ℕ, max, Bool, false, cond, Some, None, Err, Option, Result, nat_le}
use Rattle.std.specs.Str.{byte}
use Rattle.room.specs.Refusals.{RefusalTold, by_number}
use Rattle.room.specs.State.{OpenValues, RoomState, at_time, after_end}

-- The open auction's deadline is reached at this time.
abbrev pub due : ℕ → Option OpenValues → Bool
due t None = false
due t (Some a) = nat_le a.deadline t

module _ {P Q : Type 0} where
  -- The room's time becomes the later of its own and the given one; then an auction whose deadline is reached
  -- ends, cause T.
  abbrev pub after_clock : RoomState P Q → ℕ → RoomState P Q
  after_clock s t = let u = at_time (max s.time t) s in cond (due u.time u.current) (after_end (byte "T") u) u

  -- A timed call: what its input checks refuse changes nothing; otherwise the clock step comes first.
  abbrev pub timed_call : {Y F : Type 0} → Option ℕ → RoomState P Q → ℕ
      → (RoomState P Q → RoomState P Q × Result Y (RefusalTold F)) → RoomState P Q × Result Y (RefusalTold F)
  timed_call None s t business = business (after_clock s t)
  timed_call (Some n) s t business = (s, Err (by_number n))
