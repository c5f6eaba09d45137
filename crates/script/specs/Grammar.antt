-- The statements of a script, one clause for each form: in capitals what is a number, and between bars what is one of two
-- words. The first place from the left where a line says something else is told.
use Rattle.market.specs.Cube.{CubeTick}
use Rattle.std.specs.Prelude.{ℕ, List, [], ◌∷◌, codes, if◌then◌else◌, Option, Some, None, Result, Ok, Err}
use Rattle.std.specs.Str.{bytes_eq}
use Rattle.market.specs.declared.better_of.Half.TheVariants.{Left, Right}
use Rattle.script.specs.declared.misread.Expected.TheVariants as expected
use Rattle.script.specs.declared.misread.Misread.{Misread}
use Rattle.script.specs.declared.misread.Misread.TheVariants.{Unknown, Surplus}
use Rattle.script.specs.declared.read.named.HalfName.TheVariants as half
use Rattle.script.specs.declared.read.named.HalfName.{HalfName}
use Rattle.script.specs.declared.read.named.SourceName.TheVariants as source
use Rattle.script.specs.declared.read.named.SourceName.{SourceName}
use Rattle.script.specs.declared.statement.IntervalTerms.TheVariants as terms
use Rattle.script.specs.declared.statement.IntervalTerms.{IntervalTerms}
use Rattle.script.specs.declared.statement.Setting.TheVariants as setting
use Rattle.script.specs.declared.statement.Statement.TheVariants.{Setting, Call, Range}
use Rattle.script.specs.declared.statement.Statement.{Statement}
use Rattle.script.specs.Parts.{side_named, ranking_named, source_named, half_named, guarantee_named, kind_named, class_named, at_named, book_price_named}
use Rattle.script.specs.Readers.{Word, Reader, ◌>>=◌, give, give_up, a_number, exact_number, optional_number, a_price, one_of}
use Rattle.script.specs.Words.{line_words}
use Rattle.session.specs.declared.call.Call.TheVariants as call

-- room NUMBER
unfoldable pub room : Reader Statement
room = do
  number ← exact_number expected.RoomNumber
  give (Setting (setting.Room number))

-- leg buy|sell RATIO
unfoldable pub leg : Reader Statement
leg = do
  side ← one_of side_named expected.Side
  ratio ← a_number 8 expected.Ratio
  give (Setting (setting.Leg (record { side = side; ratio = ratio })))

-- ranking arrival|size
unfoldable pub ranking : Reader Statement
ranking = do
  ranking ← one_of ranking_named expected.Ranking
  give (Setting (setting.Ranking ranking))

-- fixed MILLISECONDS or drawn SEED
abbrev pub interval_of : SourceName → Reader IntervalTerms
interval_of source.Fixed = do
  milliseconds ← a_number 32 expected.Milliseconds
  give (terms.Fixed milliseconds)
interval_of source.Drawn = do
  seed ← exact_number expected.Seed
  give (terms.Drawn seed)

-- interval fixed MILLISECONDS, interval drawn SEED
unfoldable pub interval : Reader Statement
interval = do
  name ← one_of source_named expected.Interval
  terms ← interval_of name
  give (Setting (setting.Interval terms))

-- LEG BID OFFER for a leg, and for the book BID|none OFFER|none
abbrev pub tick_of : HalfName → Reader CubeTick
tick_of half.Leg = do
  leg ← a_number 32 expected.Leg
  bid ← a_price expected.Bid
  offer ← a_price expected.Offer
  give (Right (record { leg = leg; quote = record { bid = bid; offer = offer } }))
tick_of half.Book = do
  bid ← one_of book_price_named expected.BookBid
  offer ← one_of book_price_named expected.BookOffer
  give (Left (record { bid = bid; offer = offer }))

-- tick TIME leg LEG BID OFFER, tick TIME book BID|none OFFER|none
unfoldable pub tick : Reader Statement
tick = do
  time ← a_number 64 expected.Time
  half ← one_of half_named expected.Half
  tick ← tick_of half
  give (Call (call.Tick time tick))

-- open TIME MEMBER buy|sell SIZE @ LIMIT stop|match PRICE
unfoldable pub open_auction : Reader Statement
open_auction = do
  time ← a_number 64 expected.Time
  member ← a_number 8 expected.Member
  side ← one_of side_named expected.Side
  size ← a_number 32 expected.Size
  at ← one_of at_named expected.At
  limit ← a_price expected.Limit
  kind ← one_of guarantee_named expected.Guarantee
  price ← a_price expected.Price
  give (Call (call.Open (record { time = time; member = member; order = record { side = side; size = size; limit = limit; guarantee = record { kind = kind; price = price } } })))

-- respond TIME MEMBER OWN buy|sell sealed|plain customer|other SIZE @ PRICE
unfoldable pub respond : Reader Statement
respond = do
  time ← a_number 64 expected.Time
  member ← a_number 8 expected.Member
  own_number ← a_number 8 expected.OwnNumber
  side ← one_of side_named expected.Side
  kind ← one_of kind_named expected.Kind
  class ← one_of class_named expected.Class
  size ← a_number 32 expected.Size
  at ← one_of at_named expected.At
  price ← a_price expected.Price
  give (Call (call.Respond (record { time = time; member = member; own_number = own_number; side = side; kind = kind; class = class; size = size; price = price })))

-- change TIME MEMBER OWN SIZE @ PRICE
unfoldable pub change : Reader Statement
change = do
  time ← a_number 64 expected.Time
  member ← a_number 8 expected.Member
  own_number ← a_number 8 expected.OwnNumber
  size ← a_number 32 expected.Size
  at ← one_of at_named expected.At
  price ← a_price expected.Price
  give (Call (call.Change (record { time = time; member = member; own_number = own_number; size = size; price = price })))

-- withdraw TIME MEMBER OWN
unfoldable pub withdraw : Reader Statement
withdraw = do
  time ← a_number 64 expected.Time
  member ← a_number 8 expected.Member
  own_number ← a_number 8 expected.OwnNumber
  give (Call (call.Withdraw (record { time = time; member = member; own_number = own_number })))

-- halt TIME
unfoldable pub halt : Reader Statement
halt = do
  time ← a_number 64 expected.Time
  give (Call (call.Halt time))

-- resume TIME
unfoldable pub resume : Reader Statement
resume = do
  time ← a_number 64 expected.Time
  give (Call (call.Resume time))

-- clock TIME
unfoldable pub clock : Reader Statement
clock = do
  time ← a_number 64 expected.Time
  give (Call (call.Clock time))

-- collect AUCTION, collect AUCTION ROWS: 129 rows where none are given. The claim is one of the script's room, which has this
-- number.
unfoldable pub collect : ℕ → Reader Statement
collect number = do
  auction ← a_number 32 expected.Auction
  rows ← optional_number 64 expected.Rows 129
  give (Call (call.Collect (record { room = number; auction = auction }) rows))

-- range buy|sell LIMIT
unfoldable pub range : Reader Statement
range = do
  side ← one_of side_named expected.Side
  limit ← a_price expected.Limit
  give (Range (record { side = side; limit = limit }))

-- What follows a statement's first word; `look` is whole by itself.
unfoldable pub statement_after : ℕ → Word → Reader Statement
statement_after number w =
    if bytes_eq w (codes "room") then room
    else (if bytes_eq w (codes "leg") then leg
    else (if bytes_eq w (codes "ranking") then ranking
    else (if bytes_eq w (codes "interval") then interval
    else (if bytes_eq w (codes "tick") then tick
    else (if bytes_eq w (codes "open") then open_auction
    else (if bytes_eq w (codes "respond") then respond
    else (if bytes_eq w (codes "change") then change
    else (if bytes_eq w (codes "withdraw") then withdraw
    else (if bytes_eq w (codes "halt") then halt
    else (if bytes_eq w (codes "resume") then resume
    else (if bytes_eq w (codes "clock") then clock
    else (if bytes_eq w (codes "look") then give (Call call.Look)
    else (if bytes_eq w (codes "collect") then collect number
    else (if bytes_eq w (codes "range") then range
    else give_up (Unknown expected.Statement)))))))))))))))

-- A statement is whole if no word is left behind it.
abbrev pub whole : Result (Statement × List Word) Misread → Result (Option Statement) Misread
whole (Ok (s, [])) = Ok (Some s)
whole (Ok (s, w ∷ ws)) = Err Surplus
whole (Err e) = Err e

-- What these words say in a script of the room of this number; no words say nothing.
abbrev pub statement_of : ℕ → List Word → Result (Option Statement) Misread
statement_of number [] = Ok None
statement_of number (w ∷ ws) = whole (statement_after number w ws)

-- What a line says there.
abbrev pub statement_in : ℕ → List ℕ → Result (Option Statement) Misread
statement_in number line = statement_of number (line_words line)
