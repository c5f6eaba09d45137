-- Every refusal of a room, by the venue's number. Each is told by some run, but for 17 and 27, which a million openings and
-- 10,000 responses earn: they are told by a room that is put together by hand.
use Rattle.std.specs.Prelude.{◌≡◌, ℕ, false, [], ◌∷◌, ◌++◌, pos, neg_ℤ, Some, None}
use Rattle.std.specs.Str.{byte}
use Rattle.market.specs.declared.side.Side.TheVariants.{Buy, Sell}
use Rattle.interval.specs.declared.fixed.FixedInterval.{FixedInterval}
use Rattle.allocation.specs.declared.response.Class.TheVariants.{Other}
use Rattle.allocation.specs.declared.response.Kind.TheVariants.{Sealed, Plain}
use Rattle.room.specs.State.{OpenValues}
use Rattle.session.specs.declared.call.Call.TheVariants.{Respond}
use Rattle.session.specs.Runs.{step, run_from}
use Rattle.worked_runs.specs.Rooms.{CubeRoom, by_arrival, by_steps, hundred, unquoted_market, first_quotes, answers_of, Goes, Day, room_after, room_after_in}
use Rattle.worked_runs.specs.Script.{◌⇒◌, opens, buys, sells, stop, offers, bids, changes, withdraws, leg_tick, book_tick, book_bids, book_offers, halts, resumes, clock, looks, collects, collects_with, claim, stored, accepted, none_open, none_open_halted, one_open, viewed, collected, contra_row, refused, book_fault, leg_fault, this_room}

-- 1: a time over 4,000,000,000,000, in each of the timed calls. The clock stays, as a look shows; the auction at 10,000 is
-- open still, though its deadline is long past at the time given.
abbrev pub TimeOverItsLimit : Type 0
TimeOverItsLimit =
    Day
    (buys 4000000000001 100 310 (stop 300) ⇒ refused 1
    ∷ buys 10000 100 310 (stop 300) ⇒ claim 1
    ∷ offers Sealed Other 10010 2 1 10 296 ⇒ stored 10 296
    ∷ offers Sealed Other 4000000000001 2 2 10 296 ⇒ refused 1
    ∷ changes 4000000000001 2 1 10 297 ⇒ refused 1
    ∷ withdraws 4000000000001 2 1 ⇒ refused 1
    ∷ book_bids 4000000000001 299 ⇒ refused 1
    ∷ halts 4000000000001 ⇒ refused 1
    ∷ resumes 4000000000001 ⇒ refused 1
    ∷ clock 4000000000001 ⇒ refused 1
    ∷ looks ⇒ one_open 10010 0 (viewed 1 Buy 100 304)
    ∷ clock 4000000000000 ⇒ accepted
    ∷ looks ⇒ none_open 4000000000000 1
    ∷ [])

-- 2: a limit, a guarantee or a response's price outside −40,000,000 to 40,000,000. At 40,000,000 the opening goes further,
-- to 15 and to 16, and the response to 23. The clock stays at 0.
abbrev pub PriceOutsideItsLimits : Type 0
PriceOutsideItsLimits =
    Day
    (buys 10000 100 40000001 (stop 300) ⇒ refused 2
    ∷ buys 10000 100 310 (stop 40000001) ⇒ refused 2
    ∷ looks ⇒ none_open 0 0
    ∷ sells 10000 100 40000000 (stop 300) ⇒ refused 15
    ∷ buys 10000 100 310 (stop 40000000) ⇒ refused 16
    ∷ buys 10000 100 310 (stop 300) ⇒ claim 1
    ∷ offers Sealed Other 10010 2 1 10 40000001 ⇒ refused 2
    ∷ Respond (record { time = 10010; member = 2; own_number = 1; side = Sell; kind = Plain; class = Other; size = 10; price = neg_ℤ (pos 40000001) }) ⇒ refused 2
    ∷ offers Sealed Other 10010 2 1 10 40000000 ⇒ refused 23
    ∷ offers Sealed Other 10020 2 1 10 296 ⇒ stored 10 296
    ∷ changes 10030 2 1 10 40000001 ⇒ refused 2
    ∷ looks ⇒ one_open 10020 0 (viewed 1 Buy 100 304)
    ∷ [])

-- 3: a size outside 1 to 100,000.
abbrev pub SizeOutsideItsLimits : Type 0
SizeOutsideItsLimits =
    Day
    (buys 10000 0 310 (stop 300) ⇒ refused 3
    ∷ buys 10000 100001 310 (stop 300) ⇒ refused 3
    ∷ looks ⇒ none_open 0 0
    ∷ buys 10000 100000 310 (stop 300) ⇒ claim 1
    ∷ offers Sealed Other 10010 2 1 0 296 ⇒ refused 3
    ∷ offers Sealed Other 10010 2 1 100001 296 ⇒ refused 3
    ∷ offers Sealed Other 10010 2 1 100000 296 ⇒ stored 100000 296
    ∷ changes 10020 2 1 0 296 ⇒ refused 3
    ∷ changes 10020 2 1 1 296 ⇒ stored 1 296
    ∷ [])

-- 4: a member outside 1 to 16.
abbrev pub MemberOutsideItsLimits : Type 0
MemberOutsideItsLimits =
    Day
    (opens 10000 0 Buy 100 310 (stop 300) ⇒ refused 4
    ∷ opens 10000 17 Buy 100 310 (stop 300) ⇒ refused 4
    ∷ looks ⇒ none_open 0 0
    ∷ opens 10000 16 Buy 100 310 (stop 300) ⇒ claim 1
    ∷ offers Sealed Other 10010 0 1 10 296 ⇒ refused 4
    ∷ offers Sealed Other 10010 17 1 10 296 ⇒ refused 4
    ∷ offers Sealed Other 10010 16 1 10 296 ⇒ stored 10 296
    ∷ changes 10020 17 1 10 296 ⇒ refused 4
    ∷ withdraws 10020 17 1 ⇒ refused 4
    ∷ [])

-- 5: an own number outside 1 to 4.
abbrev pub OwnNumberOutsideItsLimits : Type 0
OwnNumberOutsideItsLimits =
    Day
    (buys 10000 100 310 (stop 300) ⇒ claim 1
    ∷ offers Sealed Other 10010 2 0 10 296 ⇒ refused 5
    ∷ offers Sealed Other 10010 2 5 10 296 ⇒ refused 5
    ∷ offers Sealed Other 10010 2 4 10 296 ⇒ stored 10 296
    ∷ changes 10020 2 5 10 296 ⇒ refused 5
    ∷ withdraws 10020 2 5 ⇒ refused 5
    ∷ [])

-- The input checks come in the order of their numbers, and before what the state says: this response is also to no auction.
abbrev pub InputChecksInTheirOrder : Type 0
InputChecksInTheirOrder =
    Day
    (offers Sealed Other 4000000000001 17 5 0 40000001 ⇒ refused 1
    ∷ offers Sealed Other 10000 17 5 0 40000001 ⇒ refused 2
    ∷ offers Sealed Other 10000 17 5 0 296 ⇒ refused 3
    ∷ offers Sealed Other 10000 17 5 1 296 ⇒ refused 4
    ∷ offers Sealed Other 10000 16 5 1 296 ⇒ refused 5
    ∷ looks ⇒ none_open 0 0
    ∷ offers Sealed Other 10000 16 4 1 296 ⇒ refused 21
    ∷ looks ⇒ none_open 10000 0
    ∷ [])

-- 6: a list of 128 rows; the claim is not spent. 41: the auction is still open. 42: the claim has another room's number,
-- also while the auction of its own number is open; the auction was never opened; it is collected already.
abbrev pub CollectingRefused : Type 0
CollectingRefused =
    Day
    (collects 1 ⇒ refused 42
    ∷ buys 10000 100 310 (stop 300) ⇒ claim 1
    ∷ collects 1 ⇒ refused 41
    ∷ collects_with 8 1 129 ⇒ refused 42
    ∷ collects_with 8 1 128 ⇒ refused 6
    ∷ collects 2 ⇒ refused 42
    ∷ clock 10100 ⇒ accepted
    ∷ collects_with this_room 1 128 ⇒ refused 6
    ∷ collects_with 8 1 129 ⇒ refused 42
    ∷ looks ⇒ none_open 10100 1
    ∷ collects 1 ⇒ collected 1 (byte "T") (contra_row 300 100 ∷ [])
    ∷ collects 1 ⇒ refused 42
    ∷ looks ⇒ none_open 10100 0
    ∷ [])

-- 12: the room is halted. 13: an auction waits to be collected. Of several the first is told: 12 before 13, 13 before 15,
-- and 15 before 16.
abbrev pub OpeningRefusedByTheRoom : Type 0
OpeningRefusedByTheRoom =
    Day
    (buys 10000 100 310 (stop 300) ⇒ claim 1
    ∷ halts 10010 ⇒ accepted
    ∷ buys 10020 100 293 (stop 305) ⇒ refused 12
    ∷ halts 10020 ⇒ accepted
    ∷ looks ⇒ none_open_halted 10020 1
    ∷ resumes 10030 ⇒ accepted
    ∷ resumes 10030 ⇒ accepted
    ∷ buys 10040 100 293 (stop 305) ⇒ refused 13
    ∷ collects 1 ⇒ collected 1 (byte "H") (contra_row 300 100 ∷ [])
    ∷ buys 10050 100 293 (stop 305) ⇒ refused 15
    ∷ buys 10050 100 310 (stop 305) ⇒ refused 16
    ∷ buys 10060 100 310 (stop 304) ⇒ claim 2
    ∷ [])

-- 14: a side shows no price: before the first quote, with one leg of two quoted, and with a book that only bids or only
-- offers. A book of both opens, with no leg quoted.
abbrev pub OpeningRefusedForWantOfAPrice : Type 0
OpeningRefusedForWantOfAPrice =
    Goes by_arrival unquoted_market hundred
    (buys 0 100 310 (stop 300) ⇒ refused 14
    ∷ leg_tick 10 1 500 505 ⇒ accepted
    ∷ buys 20 100 310 (stop 300) ⇒ refused 14
    ∷ book_bids 30 293 ⇒ accepted
    ∷ buys 40 100 310 (stop 300) ⇒ refused 14
    ∷ sells 40 100 290 (stop 300) ⇒ refused 14
    ∷ book_offers 50 305 ⇒ accepted
    ∷ buys 60 100 310 (stop 300) ⇒ refused 14
    ∷ sells 60 100 290 (stop 300) ⇒ refused 14
    ∷ book_tick 70 293 305 ⇒ accepted
    ∷ buys 80 100 310 (stop 300) ⇒ claim 1
    ∷ looks ⇒ one_open 80 0 (viewed 1 Buy 100 304)
    ∷ [])

-- Of several the first is told: 12 before 14, and 14 before 16. The stop of 311 is above the limit, and so above whatever
-- initiating price the order comes to have: 310, once a book of 290 and 320 shows 291 and 319.
abbrev pub OpeningChecksInTheirOrder : Type 0
OpeningChecksInTheirOrder =
    Goes by_arrival unquoted_market hundred
    (halts 10 ⇒ accepted
    ∷ buys 20 100 310 (stop 311) ⇒ refused 12
    ∷ resumes 30 ⇒ accepted
    ∷ buys 40 100 310 (stop 311) ⇒ refused 14
    ∷ book_tick 50 290 320 ⇒ accepted
    ∷ buys 60 100 310 (stop 311) ⇒ refused 16
    ∷ looks ⇒ none_open 60 0
    ∷ [])

-- 13 before 14. No leg is quoted, so a book of 290 and 320 shows by itself, 291 and 319, until it offers no more: then an
-- opening is 13 while the halted auction waits, and 14 once that is collected.
abbrev pub WaitingBeforeWantOfAPrice : Type 0
WaitingBeforeWantOfAPrice =
    Goes by_arrival unquoted_market hundred
    (book_tick 10 290 320 ⇒ accepted
    ∷ buys 20 100 310 (stop 300) ⇒ claim 1
    ∷ looks ⇒ one_open 20 0 (viewed 1 Buy 100 310)
    ∷ halts 30 ⇒ accepted
    ∷ resumes 40 ⇒ accepted
    ∷ book_bids 50 290 ⇒ accepted
    ∷ buys 60 100 310 (stop 300) ⇒ refused 13
    ∷ looks ⇒ none_open 60 1
    ∷ collects 1 ⇒ collected 1 (byte "H") (contra_row 300 100 ∷ [])
    ∷ buys 70 100 310 (stop 300) ⇒ refused 14
    ∷ looks ⇒ none_open 70 0
    ∷ [])

-- A book of 303 and 304 crosses once it is improved, 304 and 303: no order has a range, and an opening is refusal 15.
abbrev pub OpeningRefusedInACrossedMarket : Type 0
OpeningRefusedInACrossedMarket =
    Day
    (book_tick 10 303 304 ⇒ accepted
    ∷ buys 20 100 310 (stop 300) ⇒ refused 15
    ∷ sells 20 100 290 (stop 300) ⇒ refused 15
    ∷ [])

-- 21: no auction is open. 22: the response is on the order's side. 23: its price is above the initiating price.
-- 24: its member has a response of this own number standing. 25: no such response stands; own numbers are each member's.
-- 26: it is plain.
abbrev pub ResponseRefused : Type 0
ResponseRefused =
    Day
    (offers Sealed Other 9000 2 1 10 296 ⇒ refused 21
    ∷ changes 9000 2 1 10 296 ⇒ refused 21
    ∷ withdraws 9000 2 1 ⇒ refused 21
    ∷ buys 10000 100 310 (stop 300) ⇒ claim 1
    ∷ bids Sealed Other 10010 2 1 10 296 ⇒ refused 22
    ∷ offers Sealed Other 10010 2 1 10 305 ⇒ refused 23
    ∷ offers Sealed Other 10010 2 1 10 304 ⇒ stored 10 304
    ∷ offers Plain Other 10020 2 1 5 300 ⇒ refused 24
    ∷ offers Plain Other 10020 3 1 5 300 ⇒ stored 5 300
    ∷ changes 10030 2 1 10 305 ⇒ refused 23
    ∷ changes 10030 2 2 10 300 ⇒ refused 25
    ∷ withdraws 10030 4 1 ⇒ refused 25
    ∷ changes 10030 3 1 5 301 ⇒ refused 26
    ∷ withdraws 10030 3 1 ⇒ refused 26
    ∷ [])

-- Of several the first is told: 22 before 23 before 24; of a change 25 before 23, and 26 before 23.
abbrev pub ResponseChecksInTheirOrder : Type 0
ResponseChecksInTheirOrder =
    Day
    (buys 10000 100 310 (stop 300) ⇒ claim 1
    ∷ offers Plain Other 10010 2 1 10 300 ⇒ stored 10 300
    ∷ bids Plain Other 10020 2 1 10 305 ⇒ refused 22
    ∷ offers Plain Other 10020 2 1 10 305 ⇒ refused 23
    ∷ offers Plain Other 10020 2 1 10 290 ⇒ refused 24
    ∷ changes 10020 2 2 10 305 ⇒ refused 25
    ∷ changes 10020 2 1 10 305 ⇒ refused 26
    ∷ looks ⇒ one_open 10020 0 (viewed 1 Buy 100 304)
    ∷ [])

-- The same for an order to sell: one responds by bids, and a bid of 293 is, turned, above the initiating price of 294.
abbrev pub ResponseToASellRefused : Type 0
ResponseToASellRefused =
    Day
    (sells 10000 100 290 (stop 300) ⇒ claim 1
    ∷ offers Sealed Other 10010 2 1 10 300 ⇒ refused 22
    ∷ bids Sealed Other 10010 2 1 10 293 ⇒ refused 23
    ∷ bids Sealed Other 10010 2 1 10 294 ⇒ stored 10 294
    ∷ changes 10020 2 1 10 293 ⇒ refused 23
    ∷ [])

-- 31, with the market's fault whole. The book's: cause 2 at place 0 for the bid and 1 for the offer, cause 3 at place 0.
-- The legs': cause 1 at the number that was given, cause 2 and cause 3 at the leg's number. None of them moves a price:
-- the order then has the initiating price 304 and the response is stored at the floor of 294. The clock goes on.
abbrev pub TickRefusedWithTheFault : Type 0
TickRefusedWithTheFault =
    Day
    (book_tick 10 40000001 40000002 ⇒ book_fault 2 0
    ∷ book_tick 20 293 40000001 ⇒ book_fault 2 1
    ∷ book_tick 30 300 300 ⇒ book_fault 3 0
    ∷ leg_tick 40 0 500 505 ⇒ leg_fault 1 0
    ∷ leg_tick 50 3 500 505 ⇒ leg_fault 1 3
    ∷ leg_tick 60 2 100 1000001 ⇒ leg_fault 2 2
    ∷ leg_tick 70 1 505 505 ⇒ leg_fault 3 1
    ∷ looks ⇒ none_open 70 0
    ∷ buys 10000 100 310 (stop 300) ⇒ claim 1
    ∷ looks ⇒ one_open 10000 0 (viewed 1 Buy 100 304)
    ∷ offers Sealed Other 10010 2 1 10 290 ⇒ stored 10 294
    ∷ [])

-- A refused tick may end an auction by its clock step, and ends none otherwise.
abbrev pub RefusedTickEndsNothingButByTheClock : Type 0
RefusedTickEndsNothingButByTheClock =
    Day
    (buys 10000 100 310 (stop 300) ⇒ claim 1
    ∷ book_tick 10050 301 301 ⇒ book_fault 3 0
    ∷ looks ⇒ one_open 10050 0 (viewed 1 Buy 100 304)
    ∷ book_tick 10100 301 301 ⇒ book_fault 3 0
    ∷ looks ⇒ none_open 10100 1
    ∷ [])

-- A refused opening moves the clock, ends nothing and draws nothing: at 10,050 the auction of 10,000 is open still.
abbrev pub RefusedOpeningMovesOnlyTheClock : Type 0
RefusedOpeningMovesOnlyTheClock =
    Day
    (buys 10000 100 310 (stop 300) ⇒ claim 1
    ∷ buys 10050 100 293 (stop 290) ⇒ refused 15
    ∷ looks ⇒ one_open 10050 0 (viewed 1 Buy 100 304)
    ∷ buys 10060 100 310 (stop 305) ⇒ refused 16
    ∷ looks ⇒ one_open 10060 0 (viewed 1 Buy 100 304)
    ∷ clock 10099 ⇒ accepted
    ∷ looks ⇒ one_open 10099 0 (viewed 1 Buy 100 304)
    ∷ [])

-- With stepping intervals from seed 1 the source is stepped once by an accepted opening, and not by the two refused ones.
abbrev pub RefusedOpeningDrawsNothing : Type 0
RefusedOpeningDrawsNothing =
    (room_after_in by_steps unquoted_market 1
    (first_quotes ++ (buys 10000 100 293 (stop 290) ⇒ refused 15 ∷ buys 10000 100 310 (stop 300) ⇒ claim 1 ∷ buys 10010 100 310 (stop 305) ⇒ refused 16 ∷ []))).source
    ≡ 1015568748

-- A room whose market shows 294 and 304, in which so many auctions were opened, with none open and none waiting.
abbrev pub room_with_opened : ℕ → CubeRoom FixedInterval
room_with_opened n =
    record { number = this_room; time = 10000; halted = false; position = (room_after []).position; source = hundred; current = None; waiting = []; opened = n }

-- 17: a million auctions were opened. The millionth opens.
abbrev pub OpeningsUsedUp : Type 0
OpeningsUsedUp =
    ((step by_arrival (room_with_opened 999999) (buys 10000 100 310 (stop 300))).1 ≡ claim 1000000)
    × ((step by_arrival (room_with_opened 1000000) (buys 10000 100 310 (stop 300))).1 ≡ refused 17)
    × ((step by_arrival (room_with_opened 1000000) (buys 10000 100 310 (stop 305))).1 ≡ refused 16)

-- An auction in which member 2 has used up so many responses and changes, and one of them stands, sealed.
abbrev pub auction_with_used : ℕ → OpenValues
auction_with_used n = record {
  number = 1;
  deadline = 10100;
  arrivals = n;
  used = 0 ∷ n ∷ 0 ∷ 0 ∷ 0 ∷ 0 ∷ 0 ∷ 0 ∷ 0 ∷ 0 ∷ 0 ∷ 0 ∷ 0 ∷ 0 ∷ 0 ∷ 0 ∷ [];
  values = record {
    order = record { side = Buy; size = 100; limit = pos 310; guarantee = stop 300 };
    floor = pos 294;
    initiating = pos 304;
    stood = record { member = 2; own_number = 1; kind = Sealed; class = Other; size = 10; price = pos 296; arrival = n } ∷ [];
  };
}

abbrev pub room_with_used : ℕ → CubeRoom FixedInterval
room_with_used n =
    record { number = this_room; time = 10000; halted = false; position = (room_after []).position; source = hundred; current = Some (auction_with_used n); waiting = []; opened = 1 }

-- 27: the member has used up its 10,000 responses and changes. The ten-thousandth is accepted, either of them, and then no
-- other; a withdrawal may still be made. Another member's do not count. 24 comes before 27, and so does 23.
abbrev pub ResponsesUsedUp : Type 0
ResponsesUsedUp =
    ((step by_arrival (room_with_used 9999) (offers Sealed Other 10010 2 2 10 297)).1 ≡ stored 10 297)
    × ((step by_arrival (room_with_used 9999) (changes 10010 2 1 10 297)).1 ≡ stored 10 297)
    × ((step by_arrival (room_with_used 10000) (offers Sealed Other 10010 2 2 10 297)).1 ≡ refused 27)
    × ((step by_arrival (room_with_used 10000) (changes 10010 2 1 10 297)).1 ≡ refused 27)
    × ((step by_arrival (room_with_used 10000) (offers Sealed Other 10010 2 1 10 297)).1 ≡ refused 24)
    × ((step by_arrival (room_with_used 10000) (changes 10010 2 1 10 305)).1 ≡ refused 23)
    × ((step by_arrival (room_with_used 10000) (withdraws 10010 2 1)).1 ≡ stored 10 296)
    × ((step by_arrival (room_with_used 10000) (offers Sealed Other 10010 3 1 10 297)).1 ≡ stored 10 297)

-- A withdrawal is not counted: after 9,999 and a withdrawal one more response is accepted, and the next is not. The calls
-- are made one after another, from that room on.
abbrev pub WithdrawalIsNotCounted : Type 0
WithdrawalIsNotCounted =
    answers_of (run_from by_arrival (room_with_used 9999) (withdraws 10010 2 1 ∷ offers Sealed Other 10020 2 1 10 297 ∷ offers Sealed Other 10030 2 2 10 297 ∷ []))
    ≡ stored 10 296 ∷ stored 10 297 ∷ refused 27 ∷ []

-- The count begins anew with each auction: after 10,000 in one, a response to the next is accepted.
abbrev pub CountBeginsAnew : Type 0
CountBeginsAnew =
    answers_of (run_from by_arrival (room_with_used 10000) (offers Sealed Other 10010 2 2 10 297 ∷ buys 10020 100 310 (stop 300) ∷ offers Sealed Other 10030 2 2 10 297 ∷ []))
    ≡ refused 27 ∷ claim 2 ∷ stored 10 297 ∷ []

-- Of what is handed in, and of collecting.
abbrev pub InputRefusals : Type 0
InputRefusals =
    TimeOverItsLimit
    × PriceOutsideItsLimits
    × SizeOutsideItsLimits
    × MemberOutsideItsLimits
    × OwnNumberOutsideItsLimits
    × InputChecksInTheirOrder
    × CollectingRefused

-- Of openings.
abbrev pub OpeningRefusals : Type 0
OpeningRefusals =
    OpeningRefusedByTheRoom
    × OpeningRefusedForWantOfAPrice
    × OpeningChecksInTheirOrder
    × WaitingBeforeWantOfAPrice
    × OpeningRefusedInACrossedMarket
    × RefusedOpeningMovesOnlyTheClock
    × RefusedOpeningDrawsNothing
    × OpeningsUsedUp

-- Of responses, changes, withdrawals and ticks.
abbrev pub ResponseAndTickRefusals : Type 0
ResponseAndTickRefusals =
    ResponseRefused
    × ResponseChecksInTheirOrder
    × ResponseToASellRefused
    × ResponsesUsedUp
    × WithdrawalIsNotCounted
    × CountBeginsAnew
    × TickRefusedWithTheFault
    × RefusedTickEndsNothingButByTheClock
