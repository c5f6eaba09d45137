-- Runs with stepping intervals from seed 1. The next seed is 1,664,525 + 1,013,904,223 = 1,015,568,748, which is 291 over a
-- multiple of 901 (1,127,157 × 901 = 1,015,568,457): the first interval is 391. The seed after that is 1,586,005,467, 395
-- over a multiple of 901 (1,760,272 × 901 = 1,586,005,072): the second interval is 495.
use Rattle.std.specs.Prelude.{[], ◌∷◌}
use Rattle.std.specs.Str.{byte}
use Rattle.market.specs.declared.side.Side.TheVariants.{Buy, Sell}
use Rattle.allocation.specs.declared.response.Class.TheVariants.{Other}
use Rattle.allocation.specs.declared.response.Kind.TheVariants.{Sealed}
use Rattle.worked_runs.specs.Rooms.{DayBySteps}
use Rattle.worked_runs.specs.Script.{◌⇒◌, buys, sells, stop, auto_match, offers, clock, looks, collects, claim, stored, accepted, none_open, one_open, viewed, collected, row, contra_row, refused}

-- The first auction is open at 1,390 and ended at 1,391. A refused opening draws nothing, so that the second auction,
-- opened at 2,000, has the second interval: it is open at 2,494 and ended at 2,495.
abbrev pub DeadlinesOfTwoDraws : Type 0
DeadlinesOfTwoDraws =
    DayBySteps 1
    (buys 1000 100 310 (stop 300) ⇒ claim 1
    ∷ clock 1390 ⇒ accepted
    ∷ looks ⇒ one_open 1390 0 (viewed 1 Buy 100 304)
    ∷ clock 1391 ⇒ accepted
    ∷ looks ⇒ none_open 1391 1
    ∷ collects 1 ⇒ collected 1 (byte "T") (contra_row 300 100 ∷ [])
    ∷ buys 1500 100 310 (stop 305) ⇒ refused 16
    ∷ sells 2000 100 290 (stop 300) ⇒ claim 2
    ∷ clock 2494 ⇒ accepted
    ∷ looks ⇒ one_open 2494 0 (viewed 2 Sell 100 294)
    ∷ clock 2495 ⇒ accepted
    ∷ looks ⇒ none_open 2495 1
    ∷ [])

-- An opening that ends another draws its own interval and leaves nothing of the first: opened at 1,000 and at 1,200, the
-- second auction is open at 1,391 and at 1,694, and ended at 1,695.
abbrev pub EachOpeningHasItsOwnDeadline : Type 0
EachOpeningHasItsOwnDeadline =
    DayBySteps 1
    (buys 1000 100 310 (stop 300) ⇒ claim 1
    ∷ buys 1200 50 310 (auto_match 300) ⇒ claim 2
    ∷ clock 1391 ⇒ accepted
    ∷ looks ⇒ one_open 1391 1 (viewed 2 Buy 50 304)
    ∷ offers Sealed Other 1694 2 1 10 300 ⇒ stored 10 300
    ∷ looks ⇒ one_open 1694 1 (viewed 2 Buy 50 304)
    ∷ clock 1695 ⇒ accepted
    ∷ looks ⇒ none_open 1695 2
    ∷ collects 1 ⇒ collected 1 (byte "A") (contra_row 300 100 ∷ [])
    -- Just one response stands, so the contra's share is 25 of 50. At 300 both get 10, and at 304 the contra the other 30.
    ∷ collects 2 ⇒ collected 3 (byte "T") (contra_row 300 10 ∷ row Sealed Other 2 1 300 10 0 ∷ contra_row 304 30 ∷ [])
    ∷ [])

-- The list.
abbrev pub IntervalsInRuns : Type 0
IntervalsInRuns = DeadlinesOfTwoDraws × EachOpeningHasItsOwnDeadline
