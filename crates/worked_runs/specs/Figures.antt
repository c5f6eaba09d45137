-- Worked figures that concern a room.
use Rattle.std.specs.Prelude.{◌≡◌, List, [], ◌∷◌, ℤ, pos, neg_ℤ, Some, Option}
use Rattle.std.specs.Str.{byte}
use Rattle.std.specs.Option.{option_map}
use Rattle.market.specs.declared.side.Side.TheVariants.{Buy, Sell}
use Rattle.market.specs.Cube.{CubePosition, cube_start}
use Rattle.interval.specs.declared.fixed.FixedInterval.{FixedInterval}
use Rattle.allocation.specs.declared.response.Class.TheVariants.{Other}
use Rattle.allocation.specs.declared.response.Kind.TheVariants.{Sealed}
use Rattle.room.specs.State.{OpenValues}
use Rattle.worked_runs.specs.Rooms.{CubeRoom, by_arrival, hundred, bought_and_sold, Goes, Day, room_after, room_after_in}
use Rattle.worked_runs.specs.Script.{Line, ◌⇒◌, buys, sells, stop, auto_match, offers, leg_tick, book_tick, book_bids, clock, looks, collects, claim, stored, accepted, none_open, one_open, viewed, collected, row, contra_row, refused}

-- A response at 296 with a single stop at 300: the book bids 295, and the floor of 296 keeps the auction open; it bids
-- 296, and the floor of 297 ends it for C. The response gets its 10, and the contra the other 90.
abbrev pub Floor296KeepsItAnd297EndsIt : Type 0
Floor296KeepsItAnd297EndsIt =
    Day
    (buys 10000 100 310 (stop 300) ⇒ claim 1
    ∷ offers Sealed Other 10010 2 1 10 296 ⇒ stored 10 296
    ∷ book_bids 10020 295 ⇒ accepted
    ∷ looks ⇒ one_open 10020 0 (viewed 1 Buy 100 304)
    ∷ book_bids 10030 296 ⇒ accepted
    ∷ looks ⇒ none_open 10030 1
    ∷ collects 1 ⇒ collected 2 (byte "C") (row Sealed Other 2 1 296 10 0 ∷ contra_row 300 90 ∷ [])
    ∷ [])

-- The same auction: the book offers 301, and the contra price of 300 keeps it open; it offers 300, and the contra price
-- of 299 ends it for F.
abbrev pub Contra300KeepsItAnd299EndsIt : Type 0
Contra300KeepsItAnd299EndsIt =
    Day
    (buys 10000 100 310 (stop 300) ⇒ claim 1
    ∷ offers Sealed Other 10010 2 1 10 296 ⇒ stored 10 296
    ∷ book_tick 10020 293 301 ⇒ accepted
    ∷ looks ⇒ one_open 10020 0 (viewed 1 Buy 100 304)
    ∷ book_tick 10030 293 300 ⇒ accepted
    ∷ looks ⇒ none_open 10030 1
    ∷ collects 1 ⇒ collected 2 (byte "F") (row Sealed Other 2 1 296 10 0 ∷ contra_row 300 90 ∷ [])
    ∷ [])

-- Opened at 10,000 with an interval of 100: open at 10,099, ended at 10,100.
abbrev pub OpenAt10099AndEndedAt10100 : Type 0
OpenAt10099AndEndedAt10100 =
    Day
    (buys 10000 100 310 (stop 300) ⇒ claim 1
    ∷ clock 10099 ⇒ accepted
    ∷ looks ⇒ one_open 10099 0 (viewed 1 Buy 100 304)
    ∷ clock 10100 ⇒ accepted
    ∷ looks ⇒ none_open 10100 1
    ∷ collects 1 ⇒ collected 1 (byte "T") (contra_row 300 100 ∷ [])
    ∷ [])

-- An order to buy: with a limit of 293 it is refusal 15, and with a limit of 294 it opens, at the initiating price 294.
abbrev pub BuyAt294AndNotAt293 : Type 0
BuyAt294AndNotAt293 =
    Day
    (buys 10000 100 293 (stop 290) ⇒ refused 15
    ∷ buys 10000 100 294 (stop 290) ⇒ claim 1
    ∷ looks ⇒ one_open 10000 0 (viewed 1 Buy 100 294)
    ∷ [])

-- An order to buy with a limit of 310: a stop of 305 is refusal 16, and with a stop of 304 it opens.
abbrev pub StopAt304AndNotAt305 : Type 0
StopAt304AndNotAt305 =
    Day
    (buys 10000 100 310 (stop 305) ⇒ refused 16
    ∷ buys 10000 100 310 (stop 304) ⇒ claim 1
    ∷ looks ⇒ one_open 10000 0 (viewed 1 Buy 100 304)
    ∷ [])

-- An order to sell: with a limit of 305 it is refusal 15, and with a limit of 304 it opens, at the initiating price 304.
abbrev pub SellAt304AndNotAt305 : Type 0
SellAt304AndNotAt305 =
    Day
    (sells 10000 100 305 (stop 310) ⇒ refused 15
    ∷ sells 10000 100 304 (stop 310) ⇒ claim 1
    ∷ looks ⇒ one_open 10000 0 (viewed 1 Sell 100 304)
    ∷ [])

-- An order to sell with a limit of 290: a stop of 293 is, turned, above the initiating price, and is refusal 16; with a
-- stop of 294 it opens.
abbrev pub SellStopAt294AndNotAt293 : Type 0
SellStopAt294AndNotAt293 =
    Day
    (sells 10000 100 290 (stop 293) ⇒ refused 16
    ∷ sells 10000 100 290 (stop 294) ⇒ claim 1
    ∷ looks ⇒ one_open 10000 0 (viewed 1 Sell 100 294)
    ∷ [])

-- The guarantee's price that the open auction keeps, turned.
abbrev pub kept_guarantee : CubeRoom FixedInterval → Option ℤ
kept_guarantee s = option_map (λ (a : OpenValues). a.values.order.guarantee.price) s.current

-- An order to buy with a stop of 290, below the floor of 294.
abbrev pub stop_290_run : List Line
stop_290_run = buys 10000 100 310 (stop 290) ⇒ claim 1 ∷ []

-- The stop is stored as 294, and with no response the contra takes the whole order at 294.
abbrev pub Stop290IsStoredAs294 : Type 0
Stop290IsStoredAs294 =
    (kept_guarantee (room_after stop_290_run) ≡ Some (pos 294))
    × Day
    (buys 10000 100 310 (stop 290) ⇒ claim 1
    ∷ clock 10100 ⇒ accepted
    ∷ collects 1 ⇒ collected 1 (byte "T") (contra_row 294 100 ∷ [])
    ∷ [])

-- Mirrored, an order to sell with a stop of 310: turned, it is below the floor.
abbrev pub stop_310_run : List Line
stop_310_run = sells 10000 100 290 (stop 310) ⇒ claim 1 ∷ []

-- The stop is stored as 304, turned, and with no response the contra takes the whole order at 304.
abbrev pub SellStop310IsStoredAs304 : Type 0
SellStop310IsStoredAs304 =
    (kept_guarantee (room_after stop_310_run) ≡ Some (neg_ℤ (pos 304)))
    × Day
    (sells 10000 100 290 (stop 310) ⇒ claim 1
    ∷ clock 10100 ⇒ accepted
    ∷ collects 1 ⇒ collected 1 (byte "T") (contra_row 304 100 ∷ [])
    ∷ [])

-- Buy 1 and sell 1, not yet quoted.
abbrev pub even_market : CubePosition
even_market = cube_start (bought_and_sold 1 1)

-- Legs that show 401 and 405 beside a book of 400 and 406, and an order to buy with a limit of 405 and an auto-match limit
-- of 402.
abbrev pub derived_run : List Line
derived_run =
    leg_tick 0 1 500 502 ⇒ accepted
    ∷ leg_tick 0 2 97 99 ⇒ accepted
    ∷ book_tick 0 400 406 ⇒ accepted
    ∷ buys 10000 100 405 (auto_match 402) ⇒ claim 1
    ∷ looks ⇒ one_open 10000 0 (viewed 1 Buy 100 404)
    ∷ []

-- It opens at the initiating price 404, and its guarantee is stored as 402.
abbrev pub AutoMatch402IsStoredAs402 : Type 0
AutoMatch402IsStoredAs402 =
    Goes by_arrival even_market hundred derived_run
    × (kept_guarantee (room_after_in by_arrival even_market hundred derived_run) ≡ Some (pos 402))

-- The list.
abbrev pub FiguresOfRooms : Type 0
FiguresOfRooms =
    Floor296KeepsItAnd297EndsIt
    × Contra300KeepsItAnd299EndsIt
    × OpenAt10099AndEndedAt10100
    × BuyAt294AndNotAt293
    × StopAt304AndNotAt305
    × SellAt304AndNotAt305
    × SellStopAt294AndNotAt293
    × Stop290IsStoredAs294
    × SellStop310IsStoredAs304
    × AutoMatch402IsStoredAs402
