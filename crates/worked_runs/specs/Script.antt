-- How a run is written: a list of calls, each beside the answer that it gets.
use Rattle.std.specs.Prelude.{ℕ, true, false, List, map, pos, Some, None}
use Rattle.market.specs.declared.better_of.Half.TheVariants.{Left, Right}
use Rattle.market.specs.declared.side.Side.{Side}
use Rattle.market.specs.declared.side.Side.TheVariants.{Buy, Sell}
use Rattle.market.specs.Cube.{CubeTick, CubeFaultTold}
use Rattle.allocation.specs.declared.fill.FillRow.{FillRow}
use Rattle.allocation.specs.declared.order.Guarantee.{Guarantee}
use Rattle.allocation.specs.declared.order.GuaranteeKind.TheVariants.{SingleStop, AutoMatchLimit}
use Rattle.allocation.specs.declared.response.Class.{Class}
use Rattle.allocation.specs.declared.response.Class.TheVariants.{Other}
use Rattle.allocation.specs.declared.response.Kind.{Kind}
use Rattle.allocation.specs.declared.response.Kind.TheVariants.{Plain}
use Rattle.room.specs.declared.answers.AuctionView.{AuctionView}
use Rattle.room.specs.Refusals.{by_number}
use Rattle.session.specs.declared.call.Call.{Call}
use Rattle.session.specs.declared.call.Call.TheVariants.{Open, Respond, Change, Withdraw, Tick, Halt, Resume, Clock, Look, Collect}
use Rattle.session.specs.Runs.{Answer, Opened, Stored, Accepted, Looked, Collected, Refused}

-- A tick of the CUBE market is for the book, its left half, or for a leg, its right half; a fault tells which refused.
abbrev pub CubeCall : Type 0
CubeCall = Call CubeTick

abbrev pub CubeAnswer : Type 0
CubeAnswer = Answer CubeFaultTold

-- A line of a script: a call, and what it is answered.
pub record Line : Type 0 where
  pub call : CubeCall
  pub answer : CubeAnswer

infix 70 ◌⇒◌
-- A call beside its answer.
abbrev pub ◌⇒◌ : CubeCall → CubeAnswer → Line
c ⇒ a = record { call = c; answer = a }

abbrev pub calls_of : List Line → List CubeCall
calls_of ls = map (λ (l : Line). l.call) ls

abbrev pub answers_in : List Line → List CubeAnswer
answers_in ls = map (λ (l : Line). l.answer) ls

-- The number of every room here.
abbrev pub this_room : ℕ
this_room = 7

-- Calls. The first number of a timed call is its time; prices are those of the strategy, not turned.

-- A quote for a leg: its number, bid and offer.
abbrev pub leg_tick : ℕ → ℕ → ℕ → ℕ → CubeCall
leg_tick t n bid offer = Tick t (Right (record { leg = n; quote = record { bid = pos bid; offer = pos offer } }))

-- A quote for the book with both prices, with a bid only, with an offer only, and with none.
abbrev pub book_tick : ℕ → ℕ → ℕ → CubeCall
book_tick t bid offer = Tick t (Left (record { bid = Some (pos bid); offer = Some (pos offer) }))

abbrev pub book_bids : ℕ → ℕ → CubeCall
book_bids t bid = Tick t (Left (record { bid = Some (pos bid); offer = None }))

abbrev pub book_offers : ℕ → ℕ → CubeCall
book_offers t offer = Tick t (Left (record { bid = None; offer = Some (pos offer) }))

abbrev pub book_empties : ℕ → CubeCall
book_empties t = Tick t (Left (record { bid = None; offer = None }))

-- Guarantees.
abbrev pub stop : ℕ → Guarantee
stop price = record { kind = SingleStop; price = pos price }

abbrev pub auto_match : ℕ → Guarantee
auto_match price = record { kind = AutoMatchLimit; price = pos price }

-- An opening: time, member, side, size, limit price and guarantee.
abbrev pub opens : ℕ → ℕ → Side → ℕ → ℕ → Guarantee → CubeCall
opens t member side size limit g =
    Open (record { time = t; member = member; order = record { side = side; size = size; limit = pos limit; guarantee = g } })

-- Member 1 opens an auction of an order to buy, or to sell: time, size, limit price and guarantee.
abbrev pub buys : ℕ → ℕ → ℕ → Guarantee → CubeCall
buys t = opens t 1 Buy

abbrev pub sells : ℕ → ℕ → ℕ → Guarantee → CubeCall
sells t = opens t 1 Sell

-- A response: side, kind and class, member and own number, size and price.
abbrev pub responds : Side → Kind → Class → ℕ → ℕ → ℕ → ℕ → ℕ → CubeCall
responds side kind class t member own_number size price =
    Respond (record { time = t; member = member; own_number = own_number; side = side; kind = kind; class = class; size = size; price = pos price })

-- To an order to buy one offers, and to an order to sell one bids: kind and class, time, member and own number, size and
-- price.
abbrev pub offers : Kind → Class → ℕ → ℕ → ℕ → ℕ → ℕ → CubeCall
offers = responds Sell

abbrev pub bids : Kind → Class → ℕ → ℕ → ℕ → ℕ → ℕ → CubeCall
bids = responds Buy

-- A change: member and own number, new size and price.
abbrev pub changes : ℕ → ℕ → ℕ → ℕ → ℕ → CubeCall
changes t member own_number size price = Change (record { time = t; member = member; own_number = own_number; size = size; price = pos price })

-- A withdrawal: member and own number.
abbrev pub withdraws : ℕ → ℕ → ℕ → CubeCall
withdraws t member own_number = Withdraw (record { time = t; member = member; own_number = own_number })

abbrev pub halts : ℕ → CubeCall
halts t = Halt t

abbrev pub resumes : ℕ → CubeCall
resumes t = Resume t

abbrev pub clock : ℕ → CubeCall
clock t = Clock t

abbrev pub looks : CubeCall
looks = Look

-- A collecting: the numbers of room and auction in the claim, and how many rows the list has.
abbrev pub collects_with : ℕ → ℕ → ℕ → CubeCall
collects_with room n rows = Collect (record { room = room; auction = n }) rows

-- A collecting of this room's auction of this number, with a list of 129 rows.
abbrev pub collects : ℕ → CubeCall
collects n = collects_with this_room n 129

-- Answers.

-- The claim for the auction of this number.
abbrev pub claim : ℕ → CubeAnswer
claim n = Opened (record { room = this_room; auction = n })

-- A stored size and price.
abbrev pub stored : ℕ → ℕ → CubeAnswer
stored size price = Stored (record { price = pos price; size = size })

abbrev pub accepted : CubeAnswer
accepted = Accepted

-- What a look tells with no auction open: the time and how many wait, of a room that is not halted.
abbrev pub none_open : ℕ → ℕ → CubeAnswer
none_open time waiting = Looked (record { time = time; halted = false; waiting = waiting; auction = None })

-- The same of a halted room.
abbrev pub none_open_halted : ℕ → ℕ → CubeAnswer
none_open_halted time waiting = Looked (record { time = time; halted = true; waiting = waiting; auction = None })

-- An auction as everybody sees it: number, side, size and initiating price.
abbrev pub viewed : ℕ → Side → ℕ → ℕ → AuctionView
viewed n side size initiating = record { number = n; side = side; size = size; initiating = pos initiating }

-- What a look tells with an auction open.
abbrev pub one_open : ℕ → ℕ → AuctionView → CubeAnswer
one_open time waiting view = Looked (record { time = time; halted = false; waiting = waiting; auction = Some view })

-- A collecting: how many rows there are, why the auction ended, and the rows.
abbrev pub collected : ℕ → ℕ → List FillRow → CubeAnswer
collected count cause rows = Collected (record { count = count; cause = cause }) rows

-- A row of a response: kind and class, member and own number, price, filled and left.
abbrev pub row : Kind → Class → ℕ → ℕ → ℕ → ℕ → ℕ → FillRow
row kind class member own_number price filled left =
    record { price = pos price; member = member; own_number = own_number; class = class; kind = kind; filled = filled; left = left }

-- A row of the contra firm: price and filled.
abbrev pub contra_row : ℕ → ℕ → FillRow
contra_row price filled = record { price = pos price; member = 0; own_number = 0; class = Other; kind = Plain; filled = filled; left = 0 }

-- The refusal of this number.
abbrev pub refused : ℕ → CubeAnswer
refused n = Refused (by_number n)

-- Refusal 31 with the fault of the book, or of the legs: its cause by its number, and the place.
abbrev pub book_fault : ℕ → ℕ → CubeAnswer
book_fault cause place = Refused (record { number = 31; fault = Some (Left (record { cause = cause; place = place })) })

abbrev pub leg_fault : ℕ → ℕ → CubeAnswer
leg_fault cause place = Refused (record { number = 31; fault = Some (Right (record { cause = cause; place = place })) })
