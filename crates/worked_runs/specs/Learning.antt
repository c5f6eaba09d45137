-- What a member is shown of two days that differ in what is hidden from it.
use Rattle.std.specs.Prelude.{◌≡◌, Bool, true, false, List, [], ◌∷◌, ◌++◌, map, is_some, Some, None, Option}
use Rattle.std.specs.Str.{byte}
use Rattle.market.specs.declared.side.Side.TheVariants.{Buy}
use Rattle.interval.specs.declared.fixed.FixedInterval.{FixedInterval}
use Rattle.allocation.specs.declared.response.Class.TheVariants.{Customer, Other}
use Rattle.allocation.specs.declared.response.Kind.TheVariants.{Sealed, Plain}
use Rattle.room.specs.State.{new_room}
use Rattle.session.specs.Learning.{AllAlike, opens_here, ends_here, seen_by}
use Rattle.session.specs.Runs.{run}
use Rattle.session.specs.SessionLearning.{opens_if_made, ends_if_made, seen_if_made}
use Rattle.session.specs.SessionState.{session_of, session_moments}
use Rattle.worked_runs.specs.Rooms.{CubeMoment, by_arrival, hundred, unquoted_market, day_calls, Day}
use Rattle.worked_runs.specs.Script.{CubeCall, CubeAnswer, Line, ◌⇒◌, this_room, buys, stop, auto_match, offers, changes, book_tick, clock, looks, collects, claim, stored, accepted, none_open, one_open, viewed, collected, row, contra_row, refused}

-- The moments of a day.
abbrev pub moments : List Line → List (CubeMoment FixedInterval)
moments ls = run by_arrival this_room unquoted_market hundred (day_calls ls)

-- A stop of 300; member 2 is a customer at 299, then at 301, and member 3 has 5 at 303. The contra's share is 40; at 300
-- member 5 gets its 20, and the contra takes the other 80.
abbrev pub stop_day : List Line
stop_day =
    buys 10000 100 310 (stop 300) ⇒ claim 1
    ∷ offers Sealed Customer 10010 2 1 10 299 ⇒ stored 10 299
    ∷ offers Sealed Other 10020 5 1 20 290 ⇒ stored 20 294
    ∷ offers Plain Other 10030 3 1 5 303 ⇒ stored 5 303
    ∷ changes 10040 2 1 10 301 ⇒ stored 10 301
    ∷ offers Sealed Other 10050 5 1 20 300 ⇒ refused 24
    ∷ changes 10060 5 1 20 300 ⇒ stored 20 300
    ∷ looks ⇒ one_open 10060 0 (viewed 1 Buy 100 304)
    ∷ clock 10100 ⇒ accepted
    ∷ looks ⇒ none_open 10100 1
    ∷ collects 1 ⇒ collected 4 (byte "T") (contra_row 300 80 ∷ row Sealed Other 5 1 300 20 0 ∷ row Sealed Customer 2 1 301 0 10 ∷ row Plain Other 3 1 303 0 5 ∷ [])
    ∷ []

-- The same calls but for what is hidden from member 5: an auto-match limit of 298; member 2 has 99 at 304, and its change
-- is refused, as 305 is above the initiating price; member 3 is a customer with 40 at 296. At 296 member 3 gets its 40; at
-- 300 member 5 and the contra get 20 each; at 304 the contra takes the 20 that its share of 40 lacks.
abbrev pub auto_match_day : List Line
auto_match_day =
    buys 10000 100 310 (auto_match 298) ⇒ claim 1
    ∷ offers Sealed Other 10010 2 1 99 304 ⇒ stored 99 304
    ∷ offers Sealed Other 10020 5 1 20 290 ⇒ stored 20 294
    ∷ offers Plain Customer 10030 3 1 40 296 ⇒ stored 40 296
    ∷ changes 10040 2 1 1 305 ⇒ refused 23
    ∷ offers Sealed Other 10050 5 1 20 300 ⇒ refused 24
    ∷ changes 10060 5 1 20 300 ⇒ stored 20 300
    ∷ looks ⇒ one_open 10060 0 (viewed 1 Buy 100 304)
    ∷ clock 10100 ⇒ accepted
    ∷ looks ⇒ none_open 10100 1
    ∷ collects 1 ⇒ collected 5 (byte "T") (row Plain Customer 3 1 296 40 0 ∷ contra_row 300 20 ∷ row Sealed Other 5 1 300 20 0 ∷ contra_row 304 20 ∷ row Sealed Other 2 1 304 0 99 ∷ [])
    ∷ []

-- Where an auction opens and where one ends, in both days: at the fourth call, and at the twelfth.
abbrev pub openings_then : List Bool
openings_then =
    false ∷ false ∷ false ∷ true ∷ false ∷ false ∷ false ∷ false ∷ false ∷ false ∷ false ∷ false ∷ false ∷ false ∷ []

abbrev pub ends_then : List Bool
ends_then =
    false ∷ false ∷ false ∷ false ∷ false ∷ false ∷ false ∷ false ∷ false ∷ false ∷ false ∷ true ∷ false ∷ false ∷ []

-- What member 5 is shown in both days: what its own calls and the looks are answered.
abbrev pub shown_to_member_5 : List (Option CubeAnswer)
shown_to_member_5 =
    None
    ∷ None
    ∷ None
    ∷ None
    ∷ None
    ∷ Some (stored 20 294)
    ∷ None
    ∷ None
    ∷ Some (refused 24)
    ∷ Some (stored 20 300)
    ∷ Some (one_open 10060 0 (viewed 1 Buy 100 304))
    ∷ None
    ∷ Some (none_open 10100 1)
    ∷ None
    ∷ []

-- The two days are alike to member 5, auctions open and end at the same calls, and it is shown the same, though the
-- contracts are shared otherwise.
abbrev pub Member5IsShownTheSame : Type 0
Member5IsShownTheSame =
    Day stop_day
    × Day auto_match_day
    × AllAlike 5 (day_calls stop_day) (day_calls auto_match_day)
    × (map opens_here (moments stop_day) ≡ openings_then)
    × (map opens_here (moments auto_match_day) ≡ openings_then)
    × (map ends_here (moments stop_day) ≡ ends_then)
    × (map ends_here (moments auto_match_day) ≡ ends_then)
    × (map (seen_by 5) (moments stop_day) ≡ shown_to_member_5)
    × (map (seen_by 5) (moments auto_match_day) ≡ shown_to_member_5)

-- A day with a collecting of its auction before the first call and one behind the last.
abbrev pub collected_too_often : List Line → List CubeCall
collected_too_often ls = collects 1 ∷ day_calls ls ++ collects 1 ∷ []

-- The moments of these calls as a session that begins with no claim.
abbrev pub session_of_day : List Line → List (Option (CubeMoment FixedInterval))
session_of_day ls =
    session_moments by_arrival (session_of (new_room this_room unquoted_market hundred) []) (collected_too_often ls)

-- All calls are made but the first and the last: before the opening no claim is held, and then it is spent.
abbrev pub made_then : List Bool
made_then = false ∷ map (λ _. true) openings_then ++ false ∷ []

-- So it is of both days, and member 5 is shown what it was shown.
abbrev pub NoClaimTellsNothing : Type 0
NoClaimTellsNothing =
    AllAlike 5 (collected_too_often stop_day) (collected_too_often auto_match_day)
    × (map is_some (session_of_day stop_day) ≡ made_then)
    × (map is_some (session_of_day auto_match_day) ≡ made_then)
    × (map opens_if_made (session_of_day stop_day) ≡ false ∷ openings_then ++ false ∷ [])
    × (map opens_if_made (session_of_day auto_match_day) ≡ false ∷ openings_then ++ false ∷ [])
    × (map ends_if_made (session_of_day stop_day) ≡ false ∷ ends_then ++ false ∷ [])
    × (map ends_if_made (session_of_day auto_match_day) ≡ false ∷ ends_then ++ false ∷ [])
    × (map (seen_if_made 5) (session_of_day stop_day) ≡ None ∷ shown_to_member_5 ++ None ∷ [])
    × (map (seen_if_made 5) (session_of_day auto_match_day) ≡ None ∷ shown_to_member_5 ++ None ∷ [])

-- A guarantee of 40,000,001 and another member's size of 0 are not hidden, since they are refused. Here they are equal in two
-- days, and stand between looks; so does a change at 40,000,001. A stop of 300; member 2 is a customer with 10 at 299. At 294
-- member 5 gets its 20, at 299 member 2 its 10, and the contra takes the other 70 at 300.
abbrev pub stop_day_with_refusals : List Line
stop_day_with_refusals =
    looks ⇒ none_open 0 0
    ∷ buys 9000 100 310 (stop 40000001) ⇒ refused 2
    ∷ looks ⇒ none_open 0 0
    ∷ buys 10000 100 310 (stop 300) ⇒ claim 1
    ∷ offers Sealed Customer 10010 2 1 0 299 ⇒ refused 3
    ∷ looks ⇒ one_open 10000 0 (viewed 1 Buy 100 304)
    ∷ offers Sealed Customer 10020 2 1 10 299 ⇒ stored 10 299
    ∷ offers Sealed Other 10030 5 1 20 290 ⇒ stored 20 294
    ∷ changes 10040 2 1 5 40000001 ⇒ refused 2
    ∷ looks ⇒ one_open 10030 0 (viewed 1 Buy 100 304)
    ∷ changes 10050 5 1 0 290 ⇒ refused 3
    ∷ clock 10100 ⇒ accepted
    ∷ looks ⇒ none_open 10100 1
    ∷ collects 1 ⇒ collected 3 (byte "T") (row Sealed Other 5 1 294 20 0 ∷ row Sealed Customer 2 1 299 10 0 ∷ contra_row 300 70 ∷ [])
    ∷ []

-- An auto-match limit of 298; member 2, not a customer, has 99 at 304. The price and the class beside the size of 0 are
-- others, and so is the size beside the price of 40,000,001. At 294 member 5 gets its 20; at 304 the contra takes its share of
-- 40, and member 2 gets the other 40.
abbrev pub auto_match_day_with_refusals : List Line
auto_match_day_with_refusals =
    looks ⇒ none_open 0 0
    ∷ buys 9000 100 310 (stop 40000001) ⇒ refused 2
    ∷ looks ⇒ none_open 0 0
    ∷ buys 10000 100 310 (auto_match 298) ⇒ claim 1
    ∷ offers Sealed Other 10010 2 1 0 304 ⇒ refused 3
    ∷ looks ⇒ one_open 10000 0 (viewed 1 Buy 100 304)
    ∷ offers Sealed Other 10020 2 1 99 304 ⇒ stored 99 304
    ∷ offers Sealed Other 10030 5 1 20 290 ⇒ stored 20 294
    ∷ changes 10040 2 1 7 40000001 ⇒ refused 2
    ∷ looks ⇒ one_open 10030 0 (viewed 1 Buy 100 304)
    ∷ changes 10050 5 1 0 290 ⇒ refused 3
    ∷ clock 10100 ⇒ accepted
    ∷ looks ⇒ none_open 10100 1
    ∷ collects 1 ⇒ collected 3 (byte "T") (row Sealed Other 5 1 294 20 0 ∷ contra_row 304 40 ∷ row Sealed Other 2 1 304 40 59 ∷ [])
    ∷ []

-- Behind the three first quotes an auction opens in both at the seventh call, and ends at the fifteenth.
abbrev pub openings_with_refusals : List Bool
openings_with_refusals =
    false ∷ false ∷ false ∷ false ∷ false ∷ false ∷ true ∷ false ∷ false ∷ false ∷ false ∷ false ∷ false ∷ false ∷ false ∷ false ∷ false ∷ []

abbrev pub ends_with_refusals : List Bool
ends_with_refusals =
    false ∷ false ∷ false ∷ false ∷ false ∷ false ∷ false ∷ false ∷ false ∷ false ∷ false ∷ false ∷ false ∷ false ∷ true ∷ false ∷ false ∷ []

-- What member 5 is shown in both.
abbrev pub shown_with_refusals : List (Option CubeAnswer)
shown_with_refusals =
    None
    ∷ None
    ∷ None
    ∷ Some (none_open 0 0)
    ∷ None
    ∷ Some (none_open 0 0)
    ∷ None
    ∷ None
    ∷ Some (one_open 10000 0 (viewed 1 Buy 100 304))
    ∷ None
    ∷ Some (stored 20 294)
    ∷ None
    ∷ Some (one_open 10030 0 (viewed 1 Buy 100 304))
    ∷ Some (refused 3)
    ∷ None
    ∷ Some (none_open 10100 1)
    ∷ None
    ∷ []

-- The two days are alike to member 5, and it is shown the same.
abbrev pub WhatIsRefusedIsEqual : Type 0
WhatIsRefusedIsEqual =
    Day stop_day_with_refusals
    × Day auto_match_day_with_refusals
    × AllAlike 5 (day_calls stop_day_with_refusals) (day_calls auto_match_day_with_refusals)
    × (map opens_here (moments stop_day_with_refusals) ≡ openings_with_refusals)
    × (map opens_here (moments auto_match_day_with_refusals) ≡ openings_with_refusals)
    × (map ends_here (moments stop_day_with_refusals) ≡ ends_with_refusals)
    × (map ends_here (moments auto_match_day_with_refusals) ≡ ends_with_refusals)
    × (map (seen_by 5) (moments stop_day_with_refusals) ≡ shown_with_refusals)
    × (map (seen_by 5) (moments auto_match_day_with_refusals) ≡ shown_with_refusals)

-- A day with a stop of 300, and one with a stop of 302.
abbrev pub stop_300_day : List Line
stop_300_day =
    buys 10000 100 310 (stop 300) ⇒ claim 1
    ∷ book_tick 10010 293 302 ⇒ accepted
    ∷ looks ⇒ one_open 10010 0 (viewed 1 Buy 100 304)
    ∷ []

abbrev pub stop_302_day : List Line
stop_302_day =
    buys 10000 100 310 (stop 302) ⇒ claim 1
    ∷ book_tick 10010 293 302 ⇒ accepted
    ∷ looks ⇒ none_open 10010 1
    ∷ []

-- They are alike to member 5. The contra price of 301 ends the second auction and not the first, and that a look tells: a
-- member may learn of a guarantee by the end of an auction.
abbrev pub TheEndOfAnAuctionTells : Type 0
TheEndOfAnAuctionTells = Day stop_300_day × Day stop_302_day × AllAlike 5 (day_calls stop_300_day) (day_calls stop_302_day)

-- The list.
abbrev pub LearningInRuns : Type 0
LearningInRuns = Member5IsShownTheSame × NoClaimTellsNothing × WhatIsRefusedIsEqual × TheEndOfAnAuctionTells
