-- Rules of a room that a run makes visible.
use Rattle.std.specs.Prelude.{◌≡◌, ℕ, List, [], ◌∷◌, map, ℤ, pos, Some, None, Option}
use Rattle.std.specs.Str.{byte}
use Rattle.std.specs.Option.{option_map}
use Rattle.market.specs.declared.side.Side.TheVariants.{Buy, Sell}
use Rattle.market.specs.Cube.{CubePosition}
use Rattle.market.specs.Market.{nothing_shown}
use Rattle.interval.specs.declared.fixed.FixedInterval.{FixedInterval}
use Rattle.allocation.specs.declared.response.Class.TheVariants.{Customer, Other}
use Rattle.allocation.specs.declared.response.Kind.TheVariants.{Sealed, Plain}
use Rattle.room.specs.State.{OpenValues, EndedValues}
use Rattle.worked_runs.specs.Rooms.{CubeRoom, by_arrival, hundred, unquoted_market, Goes, Day, room_after}
use Rattle.worked_runs.specs.Script.{Line, ◌⇒◌, buys, sells, stop, auto_match, offers, changes, withdraws, book_tick, book_bids, book_empties, halts, resumes, clock, looks, collects, claim, stored, accepted, none_open, one_open, viewed, collected, row, contra_row, refused}

-- The floor of the open auction, turned, and the floors of those that wait, the oldest first.
abbrev pub open_floor : CubeRoom FixedInterval → Option ℤ
open_floor s = option_map (λ (a : OpenValues). a.values.floor) s.current

abbrev pub waiting_floors : CubeRoom FixedInterval → List ℤ
waiting_floors s = map (λ (e : EndedValues). e.values.floor) s.waiting

-- An order to buy, and a response at 296; the book bids 295, which ends nothing, and then as here.
abbrev pub floor_run : ℕ → List Line
floor_run bid =
    buys 10000 100 310 (stop 300) ⇒ claim 1
    ∷ offers Sealed Other 10010 2 1 10 296 ⇒ stored 10 296
    ∷ book_bids 10020 295 ⇒ accepted
    ∷ book_bids 10030 bid ⇒ accepted
    ∷ []

-- A tick that ends an auction leaves its floor: with the bid at 296 and 297 now shown, it is the 296 from before. A tick
-- that ends nothing moves it: with the bid at 294 it is 295.
abbrev pub EndedAuctionKeepsItsFloor : Type 0
EndedAuctionKeepsItsFloor =
    (open_floor (room_after (floor_run 294)) ≡ Some (pos 295))
    × (waiting_floors (room_after (floor_run 294)) ≡ [])
    × (open_floor (room_after (floor_run 296)) ≡ None)
    × (waiting_floors (room_after (floor_run 296)) ≡ pos 296 ∷ [])

-- So it may trade below the floor that is shown at its end: at 296, while 297 is bid.
abbrev pub TradesBelowTheFloorThatEndedIt : Type 0
TradesBelowTheFloorThatEndedIt =
    Day
    (buys 10000 100 310 (stop 300) ⇒ claim 1
    ∷ offers Plain Other 10010 2 1 10 296 ⇒ stored 10 296
    ∷ book_bids 10020 296 ⇒ accepted
    ∷ collects 1 ⇒ collected 2 (byte "C") (row Plain Other 2 1 296 10 0 ∷ contra_row 300 90 ∷ [])
    ∷ [])

-- The floor that a tick leaves counts for the responses after it: it rises to 297, and falls to 293, the legs' improved
-- bid, once the book has no bid. What is stored stays.
abbrev pub FloorFollowsTheTicks : Type 0
FloorFollowsTheTicks =
    Day
    (buys 10000 100 310 (stop 300) ⇒ claim 1
    ∷ offers Sealed Other 10010 2 1 10 290 ⇒ stored 10 294
    ∷ withdraws 10015 2 1 ⇒ stored 10 294
    ∷ book_bids 10020 296 ⇒ accepted
    ∷ offers Sealed Other 10030 2 1 10 290 ⇒ stored 10 297
    ∷ book_empties 10040 ⇒ accepted
    ∷ offers Sealed Other 10050 3 1 10 290 ⇒ stored 10 293
    ∷ clock 10100 ⇒ accepted
    ∷ collects 1 ⇒ collected 3 (byte "T") (row Sealed Other 3 1 293 10 0 ∷ row Sealed Other 2 1 297 10 0 ∷ contra_row 300 80 ∷ [])
    ∷ [])

-- A side that shows no price changes nothing: no leg is quoted here, and the book goes from 293 and 305 to none. The
-- auction stays open, and its floor is 294 still.
abbrev pub NoPriceChangesNothing : Type 0
NoPriceChangesNothing =
    Goes by_arrival unquoted_market hundred
    (book_tick 0 293 305 ⇒ accepted
    ∷ buys 10000 100 310 (stop 300) ⇒ claim 1
    ∷ book_empties 10010 ⇒ accepted
    ∷ looks ⇒ one_open 10010 0 (viewed 1 Buy 100 304)
    ∷ offers Sealed Other 10020 2 1 10 290 ⇒ stored 10 294
    ∷ [])

-- A floor above an auto-match limit ends nothing (above a single stop it is cause D).
abbrev pub FloorAboveAnAutoMatchLimitEndsNothing : Type 0
FloorAboveAnAutoMatchLimitEndsNothing =
    Day
    (buys 10000 10 310 (auto_match 296) ⇒ claim 1
    ∷ book_bids 10010 297 ⇒ accepted
    ∷ looks ⇒ one_open 10010 0 (viewed 1 Buy 10 304)
    ∷ book_bids 10020 302 ⇒ accepted
    ∷ looks ⇒ one_open 10020 0 (viewed 1 Buy 10 304)
    ∷ clock 10100 ⇒ accepted
    ∷ collects 1 ⇒ collected 1 (byte "T") (contra_row 304 10 ∷ [])
    ∷ [])

-- Two responses of one member: the contra's share is 40% of 100, and each gets 30 of its 50.
abbrev pub TwoResponsesOfOneMemberMake40 : Type 0
TwoResponsesOfOneMemberMake40 =
    Day
    (buys 10000 100 310 (stop 300) ⇒ claim 1
    ∷ offers Sealed Other 10010 2 1 50 300 ⇒ stored 50 300
    ∷ offers Sealed Other 10020 2 2 50 300 ⇒ stored 50 300
    ∷ clock 10100 ⇒ accepted
    ∷ collects 1 ⇒ collected 3 (byte "T") (contra_row 300 40 ∷ row Sealed Other 2 1 300 30 20 ∷ row Sealed Other 2 2 300 30 20 ∷ [])
    ∷ [])

-- With one of them withdrawn just one stands: the share is 50%, and the one left gets its 50.
abbrev pub OneResponseMakes50 : Type 0
OneResponseMakes50 =
    Day
    (buys 10000 100 310 (stop 300) ⇒ claim 1
    ∷ offers Sealed Other 10010 2 1 60 300 ⇒ stored 60 300
    ∷ offers Sealed Other 10020 2 2 50 300 ⇒ stored 50 300
    ∷ withdraws 10030 2 2 ⇒ stored 50 300
    ∷ clock 10100 ⇒ accepted
    ∷ collects 1 ⇒ collected 2 (byte "T") (contra_row 300 50 ∷ row Sealed Other 2 1 300 50 10 ∷ [])
    ∷ [])

-- A plain response priced below the floor is stored at the floor and answered so, and then ends the auction. A sealed one
-- and a change are stored likewise, and end nothing; nor does a plain one at the floor.
abbrev pub PlainBelowTheFloorEndsAndSealedDoesNot : Type 0
PlainBelowTheFloorEndsAndSealedDoesNot =
    Day
    (buys 10000 100 310 (stop 300) ⇒ claim 1
    ∷ offers Sealed Other 10010 2 1 10 293 ⇒ stored 10 294
    ∷ changes 10020 2 1 20 200 ⇒ stored 20 294
    ∷ offers Plain Other 10030 3 1 10 294 ⇒ stored 10 294
    ∷ looks ⇒ one_open 10030 0 (viewed 1 Buy 100 304)
    ∷ offers Plain Customer 10040 4 1 10 293 ⇒ stored 10 294
    ∷ looks ⇒ none_open 10040 1
    ∷ collects 1 ⇒ collected 4 (byte "E") (row Plain Customer 4 1 294 10 0 ∷ row Sealed Other 2 1 294 20 0 ∷ row Plain Other 3 1 294 10 0 ∷ contra_row 300 60 ∷ [])
    ∷ [])

-- At most two auctions wait. The first ends for A by the second's opening; while it waits no other opens. The second then
-- ends for T, and both wait. They may be collected in either order, and with none waiting a third opens.
abbrev pub AtMostTwoWait : Type 0
AtMostTwoWait =
    Day
    (buys 10000 100 310 (stop 300) ⇒ claim 1
    ∷ sells 10010 20 290 (stop 300) ⇒ claim 2
    ∷ buys 10020 100 310 (stop 300) ⇒ refused 13
    ∷ looks ⇒ one_open 10020 1 (viewed 2 Sell 20 294)
    ∷ clock 10110 ⇒ accepted
    ∷ looks ⇒ none_open 10110 2
    ∷ buys 10120 100 310 (stop 300) ⇒ refused 13
    ∷ collects 2 ⇒ collected 1 (byte "T") (contra_row 300 20 ∷ [])
    ∷ buys 10130 100 310 (stop 300) ⇒ refused 13
    ∷ collects 1 ⇒ collected 1 (byte "A") (contra_row 300 100 ∷ [])
    ∷ looks ⇒ none_open 10130 0
    ∷ buys 10140 100 310 (stop 300) ⇒ claim 3
    ∷ [])

-- The clock step comes first: at its deadline an auction ends for T whatever is called. An opening then finds it waiting,
-- a response finds none open, and a halt ends none.
abbrev pub DeadlineBeforeTheCall : Type 0
DeadlineBeforeTheCall =
    Day
    (buys 10000 100 310 (stop 300) ⇒ claim 1
    ∷ buys 10100 100 310 (stop 300) ⇒ refused 13
    ∷ collects 1 ⇒ collected 1 (byte "T") (contra_row 300 100 ∷ [])
    ∷ buys 20000 100 310 (stop 300) ⇒ claim 2
    ∷ offers Plain Other 20100 2 1 10 290 ⇒ refused 21
    ∷ collects 2 ⇒ collected 1 (byte "T") (contra_row 300 100 ∷ [])
    ∷ buys 30000 100 310 (stop 300) ⇒ claim 3
    ∷ halts 30100 ⇒ accepted
    ∷ collects 3 ⇒ collected 1 (byte "T") (contra_row 300 100 ∷ [])
    ∷ resumes 30100 ⇒ accepted
    ∷ buys 40000 100 310 (stop 300) ⇒ claim 4
    ∷ book_bids 40100 310 ⇒ accepted
    ∷ collects 4 ⇒ collected 1 (byte "T") (contra_row 300 100 ∷ [])
    ∷ [])

-- The room's time never goes back: a call with an earlier time is made at the room's time.
abbrev pub TimeNeverGoesBack : Type 0
TimeNeverGoesBack =
    Day
    (clock 10000 ⇒ accepted
    ∷ buys 500 100 310 (stop 300) ⇒ claim 1
    ∷ looks ⇒ one_open 10000 0 (viewed 1 Buy 100 304)
    ∷ clock 10099 ⇒ accepted
    ∷ offers Sealed Other 700 2 1 10 296 ⇒ stored 10 296
    ∷ looks ⇒ one_open 10099 0 (viewed 1 Buy 100 304)
    ∷ clock 10100 ⇒ accepted
    ∷ looks ⇒ none_open 10100 1
    ∷ [])

-- A withdrawn response cannot be withdrawn again; it frees its own number, and has no row.
abbrev pub WithdrawnFreesItsOwnNumber : Type 0
WithdrawnFreesItsOwnNumber =
    Day
    (buys 10000 100 310 (stop 300) ⇒ claim 1
    ∷ offers Sealed Other 10010 2 1 10 296 ⇒ stored 10 296
    ∷ withdraws 10020 2 1 ⇒ stored 10 296
    ∷ withdraws 10020 2 1 ⇒ refused 25
    ∷ offers Plain Customer 10030 2 1 20 297 ⇒ stored 20 297
    ∷ clock 10100 ⇒ accepted
    ∷ collects 1 ⇒ collected 2 (byte "T") (row Plain Customer 2 1 297 20 0 ∷ contra_row 300 80 ∷ [])
    ∷ [])

-- The causes of a tick in their order, of three auctions with a response at 296 and a stop of 300. A floor of 305 is above
-- the initiating price, the response and the stop: B. A floor of 301 is above the response and the stop: C. A floor of 298
-- is above the response, and the contra price of 298 is below the stop: C. With one response the contra's share is 50% of
-- 10, and it takes the 6 left.
abbrev pub CausesOfATickInTheirOrder : Type 0
CausesOfATickInTheirOrder =
    Day
    (buys 10000 10 310 (stop 300) ⇒ claim 1
    ∷ offers Plain Other 10010 2 1 4 296 ⇒ stored 4 296
    ∷ book_tick 10020 304 320 ⇒ accepted
    ∷ collects 1 ⇒ collected 2 (byte "B") (row Plain Other 2 1 296 4 0 ∷ contra_row 300 6 ∷ [])
    ∷ book_bids 20000 293 ⇒ accepted
    ∷ buys 20000 10 310 (stop 300) ⇒ claim 2
    ∷ offers Plain Other 20010 2 1 4 296 ⇒ stored 4 296
    ∷ book_bids 20020 300 ⇒ accepted
    ∷ collects 2 ⇒ collected 2 (byte "C") (row Plain Other 2 1 296 4 0 ∷ contra_row 300 6 ∷ [])
    ∷ book_bids 30000 293 ⇒ accepted
    ∷ buys 30000 10 310 (stop 300) ⇒ claim 3
    ∷ offers Plain Other 30010 2 1 4 296 ⇒ stored 4 296
    ∷ book_tick 30020 297 299 ⇒ accepted
    ∷ collects 3 ⇒ collected 2 (byte "C") (row Plain Other 2 1 296 4 0 ∷ contra_row 300 6 ∷ [])
    ∷ [])

-- A book one cent wide crosses once it is improved, and ends an auction beside it: 300 and 301 become a floor of 301, above
-- the stop of 300, for D, with a contra price of 300; 299 and 300 become a contra price of 299, for F, with a floor of 300.
abbrev pub CrossedMarketEndsAnAuction : Type 0
CrossedMarketEndsAnAuction =
    Day
    (buys 10000 10 310 (stop 300) ⇒ claim 1
    ∷ book_tick 10010 300 301 ⇒ accepted
    ∷ collects 1 ⇒ collected 1 (byte "D") (contra_row 300 10 ∷ [])
    ∷ book_bids 20000 293 ⇒ accepted
    ∷ buys 20000 10 310 (stop 300) ⇒ claim 2
    ∷ book_tick 20010 299 300 ⇒ accepted
    ∷ collects 2 ⇒ collected 1 (byte "F") (contra_row 300 10 ∷ [])
    ∷ [])

-- The same legs, not quoted, beside a book that is improved by nine cents, so that one of its quotes can cross by more than a cent.
abbrev pub widely_improved : CubePosition
widely_improved = ((nothing_shown, 9), unquoted_market.1)

-- D before F: the book, improved, shows 290 and 320, and then 307 and 291, above the stop of 300 and below it at one tick. D is
-- told.
abbrev pub FloorAboveStopBeforeContraBelowGuarantee : Type 0
FloorAboveStopBeforeContraBelowGuarantee =
    Goes by_arrival widely_improved hundred
    (book_tick 0 281 329 ⇒ accepted
    ∷ buys 10000 100 310 (stop 300) ⇒ claim 1
    ∷ book_tick 10010 298 300 ⇒ accepted
    ∷ looks ⇒ none_open 10010 1
    ∷ collects 1 ⇒ collected 1 (byte "D") (contra_row 300 100 ∷ [])
    ∷ [])

-- A contra that has matched more than its share lacks none of it: of 100 its share is 40, and at 298 it matches 45; at 304, the
-- initiating price, the 10 that are left go to the response there.
abbrev pub NothingLackingAtTheInitiatingPrice : Type 0
NothingLackingAtTheInitiatingPrice =
    Day
    (buys 10000 100 310 (auto_match 298) ⇒ claim 1
    ∷ offers Sealed Other 10010 2 1 45 298 ⇒ stored 45 298
    ∷ offers Sealed Other 10010 3 1 30 304 ⇒ stored 30 304
    ∷ clock 10100 ⇒ accepted
    ∷ collects 1 ⇒ collected 3 (byte "T") (contra_row 298 45 ∷ row Sealed Other 2 1 298 45 0 ∷ row Sealed Other 3 1 304 10 20 ∷ [])
    ∷ [])

-- The list.
abbrev pub RulesInRuns : Type 0
RulesInRuns =
    EndedAuctionKeepsItsFloor
    × TradesBelowTheFloorThatEndedIt
    × FloorFollowsTheTicks
    × NoPriceChangesNothing
    × FloorAboveAnAutoMatchLimitEndsNothing
    × TwoResponsesOfOneMemberMake40
    × OneResponseMakes50
    × PlainBelowTheFloorEndsAndSealedDoesNot
    × AtMostTwoWait
    × DeadlineBeforeTheCall
    × TimeNeverGoesBack
    × WithdrawnFreesItsOwnNumber
    × CausesOfATickInTheirOrder
    × CrossedMarketEndsAnAuction
    × FloorAboveStopBeforeContraBelowGuarantee
    × NothingLackingAtTheInitiatingPrice
