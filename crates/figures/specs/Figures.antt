-- Worked figures: from quotes to what is shown, from there to a range, and, through a room from the first tick to the fill list,
-- how an order is shared out among its responses and the contra.
use Rattle.std.specs.Prelude.{◌≡◌, ℕ, List, [], ◌∷◌, ◌++◌, length, pos, Some, None, Ok}
use Rattle.std.specs.Str.{byte}
use Rattle.market.specs.declared.better_of.Half.TheVariants.{Left, Right}
use Rattle.market.specs.declared.leg.LegTick.{LegTick}
use Rattle.market.specs.declared.quote.Quote.{Quote}
use Rattle.market.specs.declared.side.Side.TheVariants.{Buy}
use Rattle.market.specs.Cube.{CubeTicks, cube_start, cube_meaning}
use Rattle.market.specs.CubeHistory.{position_after}
use Rattle.market.specs.Improve.{improved_quote}
use Rattle.market.specs.Legs.{legs_meaning, smallest_ratio}
use Rattle.market.specs.Range.{permitted_range}
use Rattle.allocation.specs.declared.fill.FillRow.{FillRow}
use Rattle.allocation.specs.declared.order.Guarantee.{Guarantee}
use Rattle.allocation.specs.declared.response.Class.{Class}
use Rattle.allocation.specs.declared.response.Class.TheVariants.{Customer, Other}
use Rattle.allocation.specs.declared.response.Kind.TheVariants.{Sealed}
use Rattle.worked_runs.specs.Rooms.{Day, Goes, bought_and_sold, by_arrival, hundred}
use Rattle.worked_runs.specs.Script.{Line, ◌⇒◌, buys, stop, auto_match, offers, leg_tick, book_tick, clock, looks, collects, claim, stored, accepted, one_open, viewed, collected, row, contra_row}

-- A quote for a leg.
abbrev pub leg_at : ℕ → ℕ → ℕ → LegTick
leg_at n bid offer = record { leg = n; quote = record { bid = pos bid; offer = pos offer } }

-- A bid and an offer.
abbrev pub quoted_at : ℕ → ℕ → Quote
quoted_at bid offer = record { bid = Some (pos bid); offer = Some (pos offer) }

-- The bought leg is quoted 500 bid, 505 offered, and the sold one 100 and 104.
abbrev pub leg_ticks : List LegTick
leg_ticks = leg_at 1 500 505 ∷ (leg_at 2 100 104 ∷ [])

-- The same quotes in the CUBE market, and then one for the book.
abbrev pub leg_ticks_then : Quote → CubeTicks
leg_ticks_then book = Right (leg_at 1 500 505) ∷ (Right (leg_at 2 100 104) ∷ (Left book ∷ []))

-- Buy 1 and sell 2 show 292 and 305; with a book that bids 293 and offers nothing, the CUBE market shows 294 and 304.
abbrev pub LegsAt292And305Make294And304 : Type 0
LegsAt292And305Make294And304 =
    (legs_meaning.shows (position_after legs_meaning (bought_and_sold 1 2) leg_ticks) ≡ quoted_at 292 305)
    × (cube_meaning.shows (position_after cube_meaning (cube_start (bought_and_sold 1 2)) (leg_ticks_then (record { bid = Some (pos 293); offer = None }))) ≡ quoted_at 294 304)

-- Buy 2 and sell 4 at the same quotes show 584 and 610; the smallest ratio, 2, improves that to 586 and 608.
abbrev pub DoubledRatiosImproveByTwo : Type 0
DoubledRatiosImproveByTwo =
    (legs_meaning.shows (position_after legs_meaning (bought_and_sold 2 4) leg_ticks) ≡ quoted_at 584 610)
    × (improved_quote (smallest_ratio (bought_and_sold 2 4)) (legs_meaning.shows (position_after legs_meaning (bought_and_sold 2 4) leg_ticks)) ≡ quoted_at 586 608)

-- Quotes that make legs show 401 and 405, beside a book of 400 and 406.
abbrev pub derived_ticks : CubeTicks
derived_ticks = Right (leg_at 1 500 502) ∷ (Right (leg_at 2 97 99) ∷ (Left (quoted_at 400 406) ∷ []))

-- There, an order to buy with a limit of 405 gets the initiating price 404 and the range 402 to 404.
abbrev pub BookAndLegsPermit402To404 : Type 0
BookAndLegsPermit402To404 =
    (legs_meaning.shows (position_after legs_meaning (bought_and_sold 1 1) (leg_at 1 500 502 ∷ (leg_at 2 97 99 ∷ []))) ≡ quoted_at 401 405)
    × (permitted_range Buy (pos 405) (cube_meaning.shows (position_after cube_meaning (cube_start (bought_and_sold 1 1)) derived_ticks))
    ≡ Ok (record { side = Buy; floor = pos 402; contra = pos 404; initiating = pos 404 }))

-- Through a room: the order opens with an auto-match limit of 402, everybody sees the initiating price of 404, and a response at
-- 401 is stored at 402, where the contra matches it; the rest is the contra's at 404.
abbrev pub AutoMatchFrom402Through404 : Type 0
AutoMatchFrom402Through404 =
    Goes by_arrival (cube_start (bought_and_sold 1 1)) hundred
    (leg_tick 0 1 500 502 ⇒ accepted
    ∷ leg_tick 0 2 97 99 ⇒ accepted
    ∷ book_tick 0 400 406 ⇒ accepted
    ∷ buys 10000 100 405 (auto_match 402) ⇒ claim 1
    ∷ looks ⇒ one_open 10000 0 (viewed 1 Buy 100 404)
    ∷ offers Sealed Other 10010 2 1 10 401 ⇒ stored 10 402
    ∷ clock 10100 ⇒ accepted
    ∷ collects 1 ⇒ collected 3 (byte "T") (contra_row 402 10 ∷ row Sealed Other 2 1 402 10 0 ∷ contra_row 404 80 ∷ [])
    ∷ [])

-- The order of the figures on sharing: it buys, with a limit of 310, on the market of the first figure, so that its range
-- is 294 to 304.
abbrev pub RangeOfTheSharedOrder : Type 0
RangeOfTheSharedOrder =
    permitted_range Buy (pos 310) (cube_meaning.shows (position_after cube_meaning (cube_start (bought_and_sold 1 2)) (leg_ticks_then (record { bid = Some (pos 293); offer = None }))))
    ≡ Ok (record { side = Buy; floor = pos 294; contra = pos 304; initiating = pos 304 })

-- A sealed response with own number 1: member, class, size and price.
abbrev pub offered : ℕ → Class → ℕ → ℕ → Line
offered member class size price = offers Sealed class 10010 member 1 size price ⇒ stored size price

-- On the market of the first figure the order opens, of this size and with this guarantee; these responses arrive, in this
-- order; at its deadline the auction ends, and these rows are collected.
abbrev pub SharesOut : ℕ → Guarantee → List Line → List FillRow → Type 0
SharesOut size g responses rows =
    Day (buys 10000 size 310 g ⇒ claim 1 ∷ responses ++ (clock 10100 ⇒ accepted ∷ collects 1 ⇒ collected (length rows) (byte "T") rows ∷ []))

-- Stop 300, another's 60 at 298: 60, and the contra 40.
abbrev pub BetterPriceFirstContraTheRest : Type 0
BetterPriceFirstContraTheRest = SharesOut 100 (stop 300) (offered 2 Other 60 298 ∷ []) (row Sealed Other 2 1 298 60 0 ∷ contra_row 300 40 ∷ [])

-- Stop 300, and at 300 a customer's 30, then others' 50 and 20: 30, the contra 40, 22 and 8.
abbrev pub CustomerThenFortyPercentThenProRata : Type 0
CustomerThenFortyPercentThenProRata =
    SharesOut 100 (stop 300) (offered 2 Customer 30 300 ∷ offered 3 Other 50 300 ∷ offered 4 Other 20 300 ∷ [])
    (row Sealed Customer 2 1 300 30 0 ∷ contra_row 300 40 ∷ row Sealed Other 3 1 300 22 28 ∷ row Sealed Other 4 1 300 8 12 ∷ [])

-- Auto-match limit 298, 20 at 298 and 10 at 301: both filled, and the contra 20, 10 and, at 304, 40.
abbrev pub MatchedAtEachPriceThenCleanedUp : Type 0
MatchedAtEachPriceThenCleanedUp =
    SharesOut 100 (auto_match 298) (offered 2 Other 20 298 ∷ offered 3 Other 10 301 ∷ [])
    (contra_row 298 20 ∷ row Sealed Other 2 1 298 20 0 ∷ contra_row 301 10 ∷ row Sealed Other 3 1 301 10 0 ∷ contra_row 304 40 ∷ [])

-- Auto-match limit 298, 45 at 298 and 30 at 300: 45, the contra 45, and 10.
abbrev pub MatchedBeyondTheShareThenTheOthers : Type 0
MatchedBeyondTheShareThenTheOthers =
    SharesOut 100 (auto_match 298) (offered 2 Other 45 298 ∷ offered 3 Other 30 300 ∷ [])
    (contra_row 298 45 ∷ row Sealed Other 2 1 298 45 0 ∷ row Sealed Other 3 1 300 10 20 ∷ [])

-- Auto-match limit 298, 30 at 298 and 40 at 300: 30 and 30, and the contra 30 and 10.
abbrev pub CleanedUpBeforeTheInitiatingPrice : Type 0
CleanedUpBeforeTheInitiatingPrice =
    SharesOut 100 (auto_match 298) (offered 2 Other 30 298 ∷ offered 3 Other 40 300 ∷ [])
    (contra_row 298 30 ∷ row Sealed Other 2 1 298 30 0 ∷ contra_row 300 10 ∷ row Sealed Other 3 1 300 30 10 ∷ [])

-- An order of 1, stop 300, another's 1 at 300: the contra gets it.
abbrev pub AtLeastOneForTheContra : Type 0
AtLeastOneForTheContra = SharesOut 1 (stop 300) (offered 2 Other 1 300 ∷ []) (contra_row 300 1 ∷ row Sealed Other 2 1 300 0 1 ∷ [])

-- No response, stop 300: the contra gets all.
abbrev pub AllForTheContra : Type 0
AllForTheContra = SharesOut 100 (stop 300) [] (contra_row 300 100 ∷ [])

-- The list.
abbrev pub WorkedFigures : Type 0
WorkedFigures =
    LegsAt292And305Make294And304
    × DoubledRatiosImproveByTwo
    × BookAndLegsPermit402To404
    × AutoMatchFrom402Through404
    × RangeOfTheSharedOrder
    × BetterPriceFirstContraTheRest
    × CustomerThenFortyPercentThenProRata
    × MatchedAtEachPriceThenCleanedUp
    × MatchedBeyondTheShareThenTheOthers
    × CleanedUpBeforeTheInitiatingPrice
    × AtLeastOneForTheContra
    × AllForTheContra
