-- The rooms of these runs: over the CUBE market of two legs, one bought and one sold.
use Rattle.std.specs.Prelude.{◌≡◌, ℕ, List, [], ◌∷◌, ◌++◌, map}
use Rattle.std.proofs.Common.{lit≤}
use Rattle.market.specs.declared.leg.Leg.{Leg}
use Rattle.market.specs.declared.side.Side.TheVariants.{Buy, Sell}
use Rattle.market.specs.Cube.{CubeTick, CubeFaultTold, CubePosition, cube_start, cube_meaning}
use Rattle.market.specs.Leg.{new_leg}
use Rattle.interval.specs.declared.fixed.FixedInterval.{FixedInterval}
use Rattle.interval.specs.Fixed.{fixed_meaning}
use Rattle.interval.specs.Stepping.{stepping_meaning}
use Rattle.allocation.specs.Ranking.{earlier, larger}
use Rattle.room.specs.State.{RoomState, new_room}
use Rattle.room.specs.World.{World}
use Rattle.session.specs.Runs.{Moment, run}
use Rattle.worked_runs.specs.Script.{CubeCall, CubeAnswer, Line, ◌⇒◌, calls_of, answers_in, this_room, leg_tick, book_bids, accepted}

-- Ticks and faults of the CUBE market, beside its position, over a source of positions Q.
abbrev pub CubeWorld : Type 0 → Type 0
CubeWorld Q = World CubePosition CubeTick CubeFaultTold Q

abbrev pub CubeMoment : Type 0 → Type 0
CubeMoment Q = Moment CubePosition CubeTick CubeFaultTold Q

abbrev pub CubeRoom : Type 0 → Type 0
CubeRoom Q = RoomState CubePosition Q

-- Every interval 100 milliseconds, and ranked by arrival.
abbrev pub by_arrival : CubeWorld FixedInterval
by_arrival = record { market = cube_meaning; source = fixed_meaning; ahead = earlier }

-- Every interval 100 milliseconds, and ranked by size.
abbrev pub by_size : CubeWorld FixedInterval
by_size = record { market = cube_meaning; source = fixed_meaning; ahead = larger }

-- Intervals of a stepping seed, and ranked by arrival.
abbrev pub by_steps : CubeWorld ℕ
by_steps = record { market = cube_meaning; source = stepping_meaning; ahead = earlier }

-- The interval of 100.
abbrev pub hundred : FixedInterval
hundred = record { length = 100; least = lit≤ tt; most = lit≤ tt }

-- Two legs that are not yet quoted: one bought at this ratio, one sold at that.
abbrev pub bought_and_sold : ℕ → ℕ → List Leg
bought_and_sold m n = new_leg (record { side = Buy; ratio = m }) ∷ new_leg (record { side = Sell; ratio = n }) ∷ []

-- The market of most runs: buy 1, sell 2, not yet quoted.
abbrev pub unquoted_market : CubePosition
unquoted_market = cube_start (bought_and_sold 1 2)

-- What the calls of a run were answered.
abbrev pub answers_of : {Q : Type 0} → List (CubeMoment Q) → List CubeAnswer
answers_of {Q} ms = map (λ (m : CubeMoment Q). m.answer) ms

-- The script is what happens in a room of this world that is made at these positions.
abbrev pub Goes : {Q : Type 0} → CubeWorld Q → CubePosition → Q → List Line → Type 0
Goes w p q ls = answers_of (run w this_room p q (calls_of ls)) ≡ answers_in ls

-- At time 0 the legs are quoted 500/505 and 100/104, and the book bids 293 and offers nothing: the market then shows 294
-- and 304.
abbrev pub first_quotes : List Line
first_quotes = leg_tick 0 1 500 505 ⇒ accepted ∷ leg_tick 0 2 100 104 ⇒ accepted ∷ book_bids 0 293 ⇒ accepted ∷ []

-- The calls of a day: the first quotes, and then the script.
abbrev pub day_calls : List Line → List CubeCall
day_calls ls = calls_of (first_quotes ++ ls)

-- A day in the room with intervals of 100 and ranking by arrival: the first quotes, and then the script.
abbrev pub Day : List Line → Type 0
Day ls = Goes by_arrival unquoted_market hundred (first_quotes ++ ls)

-- The same day with ranking by size.
abbrev pub DayBySize : List Line → Type 0
DayBySize ls = Goes by_size unquoted_market hundred (first_quotes ++ ls)

-- The same day with stepping intervals from this seed.
abbrev pub DayBySteps : ℕ → List Line → Type 0
DayBySteps seed ls = Goes by_steps unquoted_market seed (first_quotes ++ ls)

-- The room after the last moment of a run, or the room that it began with.
abbrev pub last_room : {Q : Type 0} → CubeRoom Q → List (CubeMoment Q) → CubeRoom Q
last_room s [] = s
last_room s (m ∷ ms) = last_room m.after ms

-- The room that is made at these positions, after the calls of a script.
abbrev pub room_after_in : {Q : Type 0} → CubeWorld Q → CubePosition → Q → List Line → CubeRoom Q
room_after_in w p q ls = last_room (new_room this_room p q) (run w this_room p q (calls_of ls))

-- The room of a day after the calls of the script.
abbrev pub room_after : List Line → CubeRoom FixedInterval
room_after ls = room_after_in by_arrival unquoted_market hundred (first_quotes ++ ls)
