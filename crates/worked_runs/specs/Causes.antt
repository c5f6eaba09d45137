-- One run for each cause for which an auction ends: it is opened, gets sealed and plain responses, a change and a
-- withdrawal, ends, and is collected. The market shows 294 and 304, so that an order to buy with a limit of 310 has the
-- range 294 to 304, and an order to sell with a limit of 290 the range from 304 down to 294.
use Rattle.std.specs.Prelude.{List, [], ◌∷◌}
use Rattle.std.specs.Str.{byte}
use Rattle.market.specs.declared.side.Side.TheVariants.{Buy}
use Rattle.allocation.specs.declared.fill.FillRow.{FillRow}
use Rattle.allocation.specs.declared.response.Class.TheVariants.{Customer, Other}
use Rattle.allocation.specs.declared.response.Kind.TheVariants.{Sealed, Plain}
use Rattle.worked_runs.specs.Rooms.{Day, DayBySize}
use Rattle.worked_runs.specs.Script.{Line, ◌⇒◌, buys, sells, stop, auto_match, offers, bids, changes, withdraws, book_tick, book_bids, halts, clock, looks, collects, claim, stored, accepted, none_open, none_open_halted, one_open, viewed, collected, row, contra_row}

-- The rows for A. Three responses stand, so the contra's share is 40% of 50: 20. At 300, better than the limit, member
-- 2 gets its 10; 40 are left. At 298 the customer gets 5, and of the 35 left the contra matches these 5; 30 are left.
-- At 297 there are 12 and the contra has 5: 30 is enough for 12 and 12 more, so both get 12; 6 are left. At the
-- initiating price, 294, the contra takes these 6.
abbrev pub next_auction_rows : List FillRow
next_auction_rows =
    row Sealed Other 2 1 300 10 0
    ∷ row Plain Customer 3 1 298 5 0
    ∷ contra_row 298 5
    ∷ contra_row 297 12
    ∷ row Sealed Other 4 2 297 12 0
    ∷ contra_row 294 6
    ∷ []

-- A, an order to sell 50 with an auto-match limit of 298: another opening is accepted.
abbrev pub next_auction_run : List Line
next_auction_run =
    sells 20000 50 290 (auto_match 298) ⇒ claim 1
    ∷ bids Sealed Other 20010 2 1 10 300 ⇒ stored 10 300
    ∷ bids Plain Customer 20020 3 1 5 298 ⇒ stored 5 298
    ∷ bids Sealed Other 20030 4 2 8 299 ⇒ stored 8 299
    ∷ changes 20040 4 2 12 297 ⇒ stored 12 297
    ∷ bids Sealed Other 20050 5 1 9 303 ⇒ stored 9 303
    ∷ withdraws 20055 5 1 ⇒ stored 9 303
    ∷ buys 20060 10 310 (stop 300) ⇒ claim 2
    ∷ looks ⇒ one_open 20060 1 (viewed 2 Buy 10 304)
    ∷ collects 1 ⇒ collected 6 (byte "A") next_auction_rows
    ∷ []

-- A: the auction ends as another opening is accepted, and the other is then open.
abbrev pub EndedByAnotherOpening : Type 0
EndedByAnotherOpening = Day next_auction_run

-- The rows for B. The contra's share is 40% of 20: 8. At 296 member 4 gets 6 and the contra 6; 8 are left. At 297 there
-- are 20, and 8 is not enough for 20 and 20 more: the contra takes the 2 that it lacks of its share, and member 2 gets
-- 6 of its 20. At 299 nothing is left.
abbrev pub floor_above_initiating_rows : List FillRow
floor_above_initiating_rows =
    contra_row 296 6
    ∷ row Sealed Other 4 1 296 6 0
    ∷ contra_row 297 2
    ∷ row Plain Other 2 1 297 6 14
    ∷ row Sealed Customer 3 1 299 0 4
    ∷ []

-- B, an order to buy 20 with a limit of 299, its initiating price, and an auto-match limit of 296. A size of 30 is stored as
-- 20. The book then bids 299, so the floor is 300; it is above the responses too, and B comes first.
abbrev pub floor_above_initiating_run : List Line
floor_above_initiating_run =
    buys 30000 20 299 (auto_match 296) ⇒ claim 1
    ∷ offers Plain Other 30010 2 1 30 297 ⇒ stored 20 297
    ∷ offers Sealed Customer 30020 3 1 4 299 ⇒ stored 4 299
    ∷ offers Sealed Other 30030 4 1 6 298 ⇒ stored 6 298
    ∷ changes 30040 4 1 6 296 ⇒ stored 6 296
    ∷ offers Sealed Other 30050 5 1 1 295 ⇒ stored 1 295
    ∷ withdraws 30055 5 1 ⇒ stored 1 295
    ∷ book_bids 30060 299 ⇒ accepted
    ∷ looks ⇒ none_open 30060 1
    ∷ collects 1 ⇒ collected 5 (byte "B") floor_above_initiating_rows
    ∷ []

-- B: the auction ends as the floor is above its initiating price.
abbrev pub EndedByTheFloorAboveTheInitiatingPrice : Type 0
EndedByTheFloorAboveTheInitiatingPrice = Day floor_above_initiating_run

-- The rows for C. The contra's share is 40% of 40: 16. At 301 member 2 gets its 22; 18 are left. At the stop the contra
-- takes 16, and member 3 gets 2 of its 10. Beyond the stop the customer gets nothing.
abbrev pub floor_above_response_rows : List FillRow
floor_above_response_rows =
    row Sealed Other 2 1 301 22 0
    ∷ contra_row 296 16
    ∷ row Plain Other 3 1 296 2 8
    ∷ row Sealed Customer 4 1 295 0 5
    ∷ []

-- C, an order to sell 40 with a stop of 296. The book then offers 301, so that 300 is shown: turned, the floor is above
-- member 2's 301.
abbrev pub floor_above_response_run : List Line
floor_above_response_run =
    sells 40000 40 290 (stop 296) ⇒ claim 1
    ∷ bids Sealed Other 40010 2 1 25 302 ⇒ stored 25 302
    ∷ bids Plain Other 40020 3 1 10 296 ⇒ stored 10 296
    ∷ bids Sealed Customer 40030 4 1 5 295 ⇒ stored 5 295
    ∷ changes 40040 2 1 22 301 ⇒ stored 22 301
    ∷ bids Sealed Other 40050 5 1 3 300 ⇒ stored 3 300
    ∷ withdraws 40055 5 1 ⇒ stored 3 300
    ∷ book_tick 40060 293 301 ⇒ accepted
    ∷ looks ⇒ none_open 40060 1
    ∷ collects 1 ⇒ collected 4 (byte "C") floor_above_response_rows
    ∷ []

-- C: the auction ends as the floor is above a response that stands.
abbrev pub EndedByTheFloorAboveAResponse : Type 0
EndedByTheFloorAboveAResponse = Day floor_above_response_run

-- The rows for D. At the stop nobody else stands: the contra takes all 10, its share of 4 and the rest.
abbrev pub floor_above_stop_rows : List FillRow
floor_above_stop_rows =
    contra_row 296 10
    ∷ row Plain Customer 3 1 298 0 4
    ∷ row Sealed Other 2 1 300 0 7
    ∷ []

-- D, an order to buy 10 with a stop of 296. The book then bids 296, so the floor is 297: above the stop, and not above the
-- responses at 298 and 300.
abbrev pub floor_above_stop_run : List Line
floor_above_stop_run =
    buys 50000 10 310 (stop 296) ⇒ claim 1
    ∷ offers Sealed Other 50010 2 1 10 295 ⇒ stored 10 295
    ∷ offers Plain Customer 50020 3 1 4 298 ⇒ stored 4 298
    ∷ changes 50030 2 1 7 300 ⇒ stored 7 300
    ∷ offers Sealed Other 50040 4 1 2 296 ⇒ stored 2 296
    ∷ withdraws 50050 4 1 ⇒ stored 2 296
    ∷ book_bids 50060 296 ⇒ accepted
    ∷ looks ⇒ none_open 50060 1
    ∷ collects 1 ⇒ collected 3 (byte "D") floor_above_stop_rows
    ∷ []

-- D: the auction ends as the floor is above its single stop.
abbrev pub EndedByTheFloorAboveTheStop : Type 0
EndedByTheFloorAboveTheStop = Day floor_above_stop_run

-- The rows for E. At 304, better than the limit, the customer gets 5, and the others share 25 by their 30 and 20: 15
-- and 10. The contra gets nothing.
abbrev pub plain_below_floor_rows : List FillRow
plain_below_floor_rows =
    row Sealed Customer 3 1 304 5 0
    ∷ row Sealed Other 2 1 304 15 15
    ∷ row Plain Other 5 1 304 10 10
    ∷ []

-- E, an order to sell 30 with an auto-match limit of 300. Turned, bids above 304 are below the floor: they are stored at
-- 304. The sealed one and the change end nothing, and the plain one does.
abbrev pub plain_below_floor_run : List Line
plain_below_floor_run =
    sells 60000 30 290 (auto_match 300) ⇒ claim 1
    ∷ bids Sealed Other 60010 2 1 40 306 ⇒ stored 30 304
    ∷ bids Sealed Customer 60020 3 1 5 299 ⇒ stored 5 299
    ∷ changes 60030 3 1 5 305 ⇒ stored 5 304
    ∷ bids Sealed Other 60040 4 1 6 300 ⇒ stored 6 300
    ∷ withdraws 60050 4 1 ⇒ stored 6 300
    ∷ bids Plain Other 60060 5 1 20 310 ⇒ stored 20 304
    ∷ looks ⇒ none_open 60060 1
    ∷ collects 1 ⇒ collected 3 (byte "E") plain_below_floor_rows
    ∷ []

-- E: the auction ends by a plain response priced below the floor, which shares in it.
abbrev pub EndedByAPlainResponseBelowTheFloor : Type 0
EndedByAPlainResponseBelowTheFloor = Day plain_below_floor_run

-- The rows for F. At 302 the contra takes 40% of 100, and the others share 60 by their 30 and 45: 24 and 36. The
-- changed response comes behind, as its arrival is new.
abbrev pub contra_below_guarantee_rows : List FillRow
contra_below_guarantee_rows =
    contra_row 302 40
    ∷ row Plain Other 3 1 302 24 6
    ∷ row Sealed Other 2 1 302 36 9
    ∷ []

-- F, an order to buy 100 with a stop of 302. The book then offers 302, so the contra price is 301: below the stop.
abbrev pub contra_below_guarantee_run : List Line
contra_below_guarantee_run =
    buys 70000 100 310 (stop 302) ⇒ claim 1
    ∷ offers Sealed Other 70010 2 1 50 303 ⇒ stored 50 303
    ∷ offers Plain Other 70020 3 1 30 302 ⇒ stored 30 302
    ∷ changes 70030 2 1 45 302 ⇒ stored 45 302
    ∷ offers Sealed Customer 70040 4 1 99 294 ⇒ stored 99 294
    ∷ withdraws 70050 4 1 ⇒ stored 99 294
    ∷ book_tick 70060 293 302 ⇒ accepted
    ∷ looks ⇒ none_open 70060 1
    ∷ collects 1 ⇒ collected 3 (byte "F") contra_below_guarantee_rows
    ∷ []

-- F: the auction ends as the contra price is below its guarantee.
abbrev pub EndedByTheContraPriceBelowTheGuarantee : Type 0
EndedByTheContraPriceBelowTheGuarantee = Day contra_below_guarantee_run

-- The rows for H. At 302 member 3 gets its 4; 11 are left. At the stop the contra takes 40% of 15, which is 6, and
-- member 2 gets the 5 left of its 15.
abbrev pub halt_rows : List FillRow
halt_rows =
    row Plain Other 3 1 302 4 0
    ∷ contra_row 301 6
    ∷ row Sealed Other 2 1 301 5 10
    ∷ []

-- H, an order to sell 15 with a limit of 300, its initiating price, and a stop of 301. A change to a size of 20 is stored as
-- 15. The room is halted.
abbrev pub halt_run : List Line
halt_run =
    sells 80000 15 300 (stop 301) ⇒ claim 1
    ∷ bids Sealed Other 80010 2 1 9 303 ⇒ stored 9 303
    ∷ bids Plain Other 80020 3 1 4 302 ⇒ stored 4 302
    ∷ changes 80030 2 1 20 301 ⇒ stored 15 301
    ∷ bids Sealed Customer 80040 4 1 2 304 ⇒ stored 2 304
    ∷ withdraws 80050 4 1 ⇒ stored 2 304
    ∷ halts 80060 ⇒ accepted
    ∷ looks ⇒ none_open_halted 80060 1
    ∷ collects 1 ⇒ collected 3 (byte "H") halt_rows
    ∷ []

-- H: the auction ends by a halt, and the room is halted.
abbrev pub EndedByAHalt : Type 0
EndedByAHalt = Day halt_run

-- T, an order to buy 100 with a stop of 300, collected with these rows.
abbrev pub deadline_run : List FillRow → List Line
deadline_run rows =
    buys 10000 100 310 (stop 300) ⇒ claim 1
    ∷ offers Sealed Customer 10010 2 1 30 300 ⇒ stored 30 300
    ∷ offers Sealed Other 10020 3 1 50 302 ⇒ stored 50 302
    ∷ offers Plain Other 10030 4 1 20 300 ⇒ stored 20 300
    ∷ changes 10040 3 1 50 300 ⇒ stored 50 300
    ∷ offers Sealed Other 10050 5 1 10 297 ⇒ stored 10 297
    ∷ withdraws 10060 5 1 ⇒ stored 10 297
    ∷ clock 10100 ⇒ accepted
    ∷ looks ⇒ none_open 10100 1
    ∷ collects 1 ⇒ collected 4 (byte "T") rows
    ∷ []

-- The rows for T. The customer gets 30 and the contra 40% of 100. The others share the 30 left by their 20 and 50: 8 and 21, rounded down,
-- and the odd contract goes to the earlier arrival. That is member 4, since member 3 has changed its response.
abbrev pub rows_by_arrival : List FillRow
rows_by_arrival =
    row Sealed Customer 2 1 300 30 0
    ∷ contra_row 300 40
    ∷ row Plain Other 4 1 300 9 11
    ∷ row Sealed Other 3 1 300 21 29
    ∷ []

-- T: the auction ends at its deadline, 10,100.
abbrev pub EndedByTheDeadline : Type 0
EndedByTheDeadline = Day (deadline_run rows_by_arrival)

-- Ranked by size, the odd contract goes to the larger response, which also comes first: 22, and then 8.
abbrev pub rows_by_size : List FillRow
rows_by_size =
    row Sealed Customer 2 1 300 30 0
    ∷ contra_row 300 40
    ∷ row Sealed Other 3 1 300 22 28
    ∷ row Plain Other 4 1 300 8 12
    ∷ []

-- T, in a room that ranks by size.
abbrev pub EndedByTheDeadlineRankedBySize : Type 0
EndedByTheDeadlineRankedBySize = DayBySize (deadline_run rows_by_size)

-- The list.
abbrev pub EveryCauseEndsAnAuction : Type 0
EveryCauseEndsAnAuction =
    EndedByAnotherOpening
    × EndedByTheFloorAboveTheInitiatingPrice
    × EndedByTheFloorAboveAResponse
    × EndedByTheFloorAboveTheStop
    × EndedByAPlainResponseBelowTheFloor
    × EndedByTheContraPriceBelowTheGuarantee
    × EndedByAHalt
    × EndedByTheDeadline
    × EndedByTheDeadlineRankedBySize
