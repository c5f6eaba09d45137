-- In which words a line is told that it is not understood.
use Rattle.std.specs.Prelude.{ℕ, List, ◌++◌, codes}
use Rattle.script.specs.declared.misread.Expected.{Expected}
use Rattle.script.specs.declared.misread.Expected.TheVariants as expected
use Rattle.script.specs.declared.misread.Misread.{Misread}
use Rattle.script.specs.declared.misread.Misread.TheVariants.{Missing, Unknown, Negative, TooLarge, Surplus}
use Rattle.std.specs.Fmt.{decimal}
use Rattle.script.specs.declared.setup.wanting.NoRoom.{NoRoom}
use Rattle.script.specs.declared.setup.wanting.NoRoom.TheVariants.{Needs, SeeLine}
use Rattle.script.specs.declared.setup.wanting.Wanting.{Wanting}
use Rattle.script.specs.declared.setup.wanting.Wanting.TheVariants as wanting
use Rattle.script.specs.declared.transcript.not_understood.NotUnderstood.{NotUnderstood}
use Rattle.script.specs.declared.transcript.not_understood.NotUnderstood.TheVariants as why

-- What is expected at a place of a line.
abbrev pub expected_text : Expected → List ℕ
expected_text expected.Statement = codes "room, leg, ranking, interval, tick, open, respond, change, withdraw, halt, resume, clock, look, collect or range"
expected_text expected.RoomNumber = codes "the room's number"
expected_text expected.Side = codes "buy or sell"
expected_text expected.Ratio = codes "a ratio"
expected_text expected.Ranking = codes "arrival or size"
expected_text expected.Interval = codes "fixed or drawn"
expected_text expected.Milliseconds = codes "a number of milliseconds"
expected_text expected.Seed = codes "a seed"
expected_text expected.Time = codes "a time"
expected_text expected.Half = codes "leg or book"
expected_text expected.Leg = codes "a leg's number"
expected_text expected.Bid = codes "a bid in whole cents"
expected_text expected.Offer = codes "an offer in whole cents"
expected_text expected.BookBid = codes "a bid in whole cents or none"
expected_text expected.BookOffer = codes "an offer in whole cents or none"
expected_text expected.Member = codes "a member's number"
expected_text expected.OwnNumber = codes "an own number"
expected_text expected.Kind = codes "sealed or plain"
expected_text expected.Class = codes "customer or other"
expected_text expected.Size = codes "a size"
expected_text expected.At = codes "@"
expected_text expected.Limit = codes "a limit in whole cents"
expected_text expected.Guarantee = codes "stop or match"
expected_text expected.Price = codes "a price in whole cents"
expected_text expected.Auction = codes "an auction's number"
expected_text expected.Rows = codes "a number of rows"

-- A line is told what was expected at its first wrong place, and never what it says there.
abbrev pub misread_text : Misread → List ℕ
misread_text (Missing what) = codes "the line ends where " ++ (expected_text what ++ codes " is expected")
misread_text (Unknown what) = expected_text what ++ codes " is expected, and something else stands there"
misread_text (Negative what) = expected_text what ++ codes " is expected, with no minus"
misread_text (TooLarge what) = expected_text what ++ codes " is expected, of at most 4294967295"
misread_text Surplus = codes "the line's end is expected, and words follow"

-- The first thing that the room is wanting.
abbrev pub wanting_text : Wanting → List ℕ
wanting_text wanting.Number = codes "the room has no number yet"
wanting_text wanting.Legs = codes "the room has no two legs yet"
wanting_text wanting.Ranking = codes "the room has no ranking yet"
wanting_text wanting.Interval = codes "the room has no interval yet"

-- Why there is no room for a line: the first thing that it is wanting, or the line that was told this.
abbrev pub no_room_text : NoRoom → List ℕ
no_room_text (Needs e) = wanting_text e
no_room_text (SeeLine n) = codes "there is no room yet, see line " ++ decimal n

-- What stands behind `not understood: `.
abbrev pub not_understood_text : NotUnderstood → List ℕ
not_understood_text (why.Misread e) = misread_text e
not_understood_text why.AfterFirstCall = codes "a setting comes before the first call"
not_understood_text (why.NoRoom e) = no_room_text e
