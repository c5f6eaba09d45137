-- Moments of a run: what becomes of the open auction at one, by the room, and the exchange that it is.
use Rattle.std.specs.Prelude.{ℕ, ◌+◌, Bool, cond, not, ◌&&◌, List, [], ◌∷◌, map}
use Rattle.room.specs.State.{RoomState, is_number}
use Rattle.session.specs.History.{Exchange}
use Rattle.session.specs.Runs.{Moment}

-- The auction of this number is open.
abbrev pub is_open : {P Q : Type 0} → ℕ → RoomState P Q → Bool
is_open n s = is_number n s.current

module _ {P T F Q : Type 0} where
  -- It is open before a call and not open after it.
  abbrev pub ends_at : ℕ → Moment P T F Q → Bool
  ends_at n m = is_open n m.before && not (is_open n m.after)

  -- It is open before a call and no longer open after the clock step.
  abbrev pub ends_by_clock : ℕ → Moment P T F Q → Bool
  ends_by_clock n m = is_open n m.before && not (is_open n m.stepped)

  -- At how many moments it ended.
  abbrev pub times_ended : ℕ → List (Moment P T F Q) → ℕ
  times_ended n [] = 0
  times_ended n (m ∷ past) = cond (ends_at n m) 1 0 + times_ended n past

-- The exchanges of moments.
abbrev pub exchange_of : {P T F Q : Type 0} → Moment P T F Q → Exchange T F
exchange_of m = record { call = m.call; answer = m.answer }

abbrev pub history_of : {P T F Q : Type 0} → List (Moment P T F Q) → List (Exchange T F)
history_of ms = map exchange_of ms

-- Of each moment of a run, with the moments before it.
abbrev pub Throughout : {M : Type 0} → (List M → M → Type 0) → List M → List M → Type 0
Throughout L past [] = Unit {0}
Throughout L past (m ∷ ms) = L past m × Throughout L (m ∷ past) ms
