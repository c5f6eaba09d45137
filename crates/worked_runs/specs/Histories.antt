-- What the history of a run tells of its auction, from the calls and the answers: how it was opened, its floor, the
-- responses that stood, whose responses and changes it accepted, why it ended, and what a look tells then. It is told of
-- the runs for each cause.
use Rattle.std.specs.Prelude.{◌≡◌, ℕ, true, List, [], ◌∷◌, drop, ℤ, pos, neg_ℤ, Some}
use Rattle.std.specs.Str.{byte}
use Rattle.market.specs.Cube.{CubeTick, CubeFaultTold}
use Rattle.market.specs.declared.side.Side.TheVariants.{Buy, Sell}
use Rattle.interval.specs.declared.fixed.FixedInterval.{FixedInterval}
use Rattle.allocation.specs.declared.order.Guarantee.{Guarantee}
use Rattle.allocation.specs.declared.response.Class.{Class}
use Rattle.allocation.specs.declared.response.Class.TheVariants.{Customer, Other}
use Rattle.allocation.specs.declared.response.Kind.{Kind}
use Rattle.allocation.specs.declared.response.Kind.TheVariants.{Sealed, Plain}
use Rattle.allocation.specs.FillLaws.{StoodResponse}
use Rattle.session.specs.History.{Exchange, OpeningFacts, story_of, was_collected, waiting_then, view_then}
use Rattle.session.specs.Moments.{times_ended, history_of}
use Rattle.session.specs.Runs.{Looked, run}
use Rattle.worked_runs.specs.Causes.{next_auction_run, floor_above_initiating_run, floor_above_response_run, floor_above_stop_run, plain_below_floor_run, contra_below_guarantee_run, halt_run, deadline_run, rows_by_arrival}
use Rattle.worked_runs.specs.Rooms.{CubeMoment, by_arrival, hundred, unquoted_market, day_calls}
use Rattle.worked_runs.specs.Script.{Line, CubeAnswer, this_room, stop, auto_match, none_open, none_open_halted, one_open, viewed}

-- Moments in front of those that were before them, the newest first.
abbrev pub newest_first : {M : Type 0} → List M → List M → List M
newest_first past [] = past
newest_first past (m ∷ ms) = newest_first (m ∷ past) ms

-- The moments of a day.
abbrev pub moments : List Line → List (CubeMoment FixedInterval)
moments ls = newest_first [] (run by_arrival this_room unquoted_market hundred (day_calls ls))

-- Its history.
abbrev pub history : List Line → List (Exchange CubeTick CubeFaultTold)
history ls = history_of (moments ls)

-- An order to buy as handed in, and opened on the market that shows 294 and 304 with an interval of 100: time, size, limit
-- and guarantee, and the initiating price of its range.
abbrev pub bought_at : ℕ → ℕ → ℕ → Guarantee → ℕ → OpeningFacts
bought_at t size limit g initiating = record {
  order = record { side = Buy; size = size; limit = pos limit; guarantee = g };
  range = record { side = Buy; floor = pos 294; contra = pos 304; initiating = pos initiating };
  time = t;
  interval = 100;
}

-- The same of an order to sell, whose range is turned.
abbrev pub sold_at : ℕ → ℕ → ℕ → Guarantee → ℕ → OpeningFacts
sold_at t size limit g initiating = record {
  order = record { side = Sell; size = size; limit = pos limit; guarantee = g };
  range = record { side = Sell; floor = neg_ℤ (pos 304); contra = neg_ℤ (pos 294); initiating = neg_ℤ (pos initiating) };
  time = t;
  interval = 100;
}

-- A response that stood: kind and class, member and own number, size and price, not turned, and arrival.
abbrev pub standing : Kind → Class → ℕ → ℕ → ℕ → ℕ → ℕ → StoodResponse
standing kind class member own_number size price arrival =
    record { member = member; own_number = own_number; price = pos price; class = class; kind = kind; size = size; arrival = arrival }

-- The history of a day tells this of auction 1: its opening, its floor (turned), the responses that stood, the members of
-- the responses and changes that it accepted, the last first, and its cause. It ended at one moment. The last call collected
-- it: before it a look tells this, and after it none waits.
abbrev pub Tells : List Line → OpeningFacts → ℤ → List StoodResponse → List ℕ → ℕ → CubeAnswer → Type 0
Tells ls facts floor stood storing cause look =
    (story_of by_arrival unquoted_market hundred 1 (history ls) ≡ Some (record { opening = facts; floor = floor; stood = stood; storers = storing; ended = Some cause }))
    × (times_ended 1 (moments ls) ≡ 1)
    × (Looked (view_then by_arrival unquoted_market hundred (drop 1 (history ls))) ≡ look)
    × (was_collected 1 (history ls) ≡ true)
    × (waiting_then by_arrival unquoted_market hundred (history ls) ≡ 0)

-- A: three responses, the last as changed; the withdrawn one is not among them.
abbrev pub HistoryTellsAnotherOpening : Type 0
HistoryTellsAnotherOpening =
    Tells next_auction_run (sold_at 20000 50 290 (auto_match 298) 294) (neg_ℤ (pos 304))
    (standing Sealed Other 2 1 10 300 1 ∷ standing Plain Customer 3 1 5 298 2 ∷ standing Sealed Other 4 2 12 297 4 ∷ [])
    (5 ∷ 4 ∷ 4 ∷ 3 ∷ 2 ∷ []) (byte "A") (one_open 20060 1 (viewed 2 Buy 10 304))

-- B: the floor is 294, since the ending tick does not count.
abbrev pub HistoryTellsTheFloorAboveTheInitiatingPrice : Type 0
HistoryTellsTheFloorAboveTheInitiatingPrice =
    Tells floor_above_initiating_run (bought_at 30000 20 299 (auto_match 296) 299) (pos 294)
    (standing Plain Other 2 1 20 297 1 ∷ standing Sealed Customer 3 1 4 299 2 ∷ standing Sealed Other 4 1 6 296 4 ∷ [])
    (5 ∷ 4 ∷ 4 ∷ 3 ∷ 2 ∷ []) (byte "B") (none_open 30060 1)

-- C: the same, turned, of an order to sell: the floor is 304. The changed response keeps its place and arrived last.
abbrev pub HistoryTellsTheFloorAboveAResponse : Type 0
HistoryTellsTheFloorAboveAResponse =
    Tells floor_above_response_run (sold_at 40000 40 290 (stop 296) 294) (neg_ℤ (pos 304))
    (standing Sealed Other 2 1 22 301 4 ∷ standing Plain Other 3 1 10 296 2 ∷ standing Sealed Customer 4 1 5 295 3 ∷ [])
    (5 ∷ 2 ∷ 4 ∷ 3 ∷ 2 ∷ []) (byte "C") (none_open 40060 1)

-- D: the floor is 294 again, and not the 297 above the stop.
abbrev pub HistoryTellsTheFloorAboveTheStop : Type 0
HistoryTellsTheFloorAboveTheStop =
    Tells floor_above_stop_run (bought_at 50000 10 310 (stop 296) 304) (pos 294)
    (standing Sealed Other 2 1 7 300 3 ∷ standing Plain Customer 3 1 4 298 2 ∷ [])
    (4 ∷ 2 ∷ 3 ∷ 2 ∷ []) (byte "D") (none_open 50060 1)

-- E: the response that ended it stood too.
abbrev pub HistoryTellsAPlainResponseBelowTheFloor : Type 0
HistoryTellsAPlainResponseBelowTheFloor =
    Tells plain_below_floor_run (sold_at 60000 30 290 (auto_match 300) 294) (neg_ℤ (pos 304))
    (standing Sealed Other 2 1 30 304 1 ∷ standing Sealed Customer 3 1 5 304 3 ∷ standing Plain Other 5 1 20 304 5 ∷ [])
    (5 ∷ 4 ∷ 3 ∷ 3 ∷ 2 ∷ []) (byte "E") (none_open 60060 1)

-- F: two responses, the first as changed.
abbrev pub HistoryTellsTheContraPriceBelowTheGuarantee : Type 0
HistoryTellsTheContraPriceBelowTheGuarantee =
    Tells contra_below_guarantee_run (bought_at 70000 100 310 (stop 302) 304) (pos 294)
    (standing Sealed Other 2 1 45 302 3 ∷ standing Plain Other 3 1 30 302 2 ∷ [])
    (4 ∷ 2 ∷ 3 ∷ 2 ∷ []) (byte "F") (none_open 70060 1)

-- H: the changed size is told as stored, 15; the room is halted.
abbrev pub HistoryTellsAHalt : Type 0
HistoryTellsAHalt =
    Tells halt_run (sold_at 80000 15 300 (stop 301) 300) (neg_ℤ (pos 304))
    (standing Sealed Other 2 1 15 301 3 ∷ standing Plain Other 3 1 4 302 2 ∷ [])
    (4 ∷ 2 ∷ 3 ∷ 2 ∷ []) (byte "H") (none_open_halted 80060 1)

-- T: three responses, the second as changed.
abbrev pub HistoryTellsTheDeadline : Type 0
HistoryTellsTheDeadline =
    Tells (deadline_run rows_by_arrival) (bought_at 10000 100 310 (stop 300) 304) (pos 294)
    (standing Sealed Customer 2 1 30 300 1 ∷ standing Sealed Other 3 1 50 300 4 ∷ standing Plain Other 4 1 20 300 3 ∷ [])
    (5 ∷ 3 ∷ 4 ∷ 3 ∷ 2 ∷ []) (byte "T") (none_open 10100 1)

-- The list.
abbrev pub HistoriesTellTheSame : Type 0
HistoriesTellTheSame =
    HistoryTellsAnotherOpening
    × HistoryTellsTheFloorAboveTheInitiatingPrice
    × HistoryTellsTheFloorAboveAResponse
    × HistoryTellsTheFloorAboveTheStop
    × HistoryTellsAPlainResponseBelowTheFloor
    × HistoryTellsTheContraPriceBelowTheGuarantee
    × HistoryTellsAHalt
    × HistoryTellsTheDeadline
