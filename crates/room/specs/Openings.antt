-- Opening an auction.
use Rattle.std.specs.Prelude.{ℕ, ◌+◌, Bool, true, false, List, [], replicate, ℤ, Some, None, Ok, Option, Result, int_lt, nat_le}
use Rattle.std.specs.Int.{int_max}
use Rattle.std.specs.Str.{byte}
use Rattle.market.specs.Range.{RangePrices, permitted_range}
use Rattle.market.specs.Side.{turned_price}
use Rattle.allocation.specs.declared.order.Guarantee.{Guarantee}
use Rattle.allocation.specs.declared.order.PairedOrder.{PairedOrder}
use Rattle.allocation.specs.Auction.{AuctionValues}
use Rattle.room.specs.declared.answers.ClaimNumbers.{ClaimNumbers}
use Rattle.room.specs.declared.requests.OpeningRequest.{OpeningRequest}
use Rattle.room.specs.Checks.{open_checks}
use Rattle.room.specs.Clock.{timed_call}
use Rattle.room.specs.Refusals.{RefusalTold, refuse, unless, and_then, outcome}
use Rattle.room.specs.State.{OpenValues, EndedValues, RoomState, after_end}
use Rattle.room.specs.World.{World}

-- An order with its limit and its guarantee turned.
abbrev pub turned_order : PairedOrder → PairedOrder
turned_order o =
    record o { limit = turned_price o.side o.limit; guarantee = record o.guarantee { price = turned_price o.side o.guarantee.price } }

-- A guarantee below the floor is stored at the floor.
abbrev pub at_least : ℤ → Guarantee → Guarantee
at_least floor g = record g { price = int_max floor g.price }

-- An order as an auction stores it.
abbrev pub stored_order : ℤ → PairedOrder → PairedOrder
stored_order floor o = record (turned_order o) { guarantee = at_least floor (turned_order o).guarantee }

-- Some auction waits to be collected.
abbrev pub any_waits : List EndedValues → Bool
any_waits [] = false
any_waits _ = true

-- 12 the room is halted, 13 an auction waits.
abbrev pub room_refusal : Bool → List EndedValues → Option ℕ
room_refusal halted waiting = refuse halted 12 (refuse (any_waits waiting) 13 None)

-- 16 the guarantee is above the initiating price, 17 a million auctions were opened.
abbrev pub guarantee_refusal : PairedOrder → ℕ → RangePrices → Option ℕ
guarantee_refusal o opened r =
    refuse (int_lt r.initiating (turned_price o.side o.guarantee.price)) 16 (refuse (nat_le 1000000 opened) 17 None)

-- A new auction of an order and its range, with no response yet.
abbrev pub new_values : PairedOrder → RangePrices → AuctionValues
new_values o r = record { order = stored_order r.floor o; floor = r.floor; initiating = r.initiating; stood = [] }

-- No member has used any of its 10,000.
abbrev pub none_used : List ℕ
none_used = replicate 16 0

-- An auction of these values as it opens: no response or change was accepted yet.
abbrev pub new_open : ℕ → ℕ → AuctionValues → OpenValues
new_open number deadline v = record { number = number; deadline = deadline; values = v; arrivals = 0; used = none_used }

module _ {P T F Q : Type 0} (w : World P T F Q) where
  -- The range of an order that may open, or the first refusal: 12, 13, then 14 and 15, the refusals of the
  -- range by what the market shows, 16, 17.
  abbrev pub opening_range : RoomState P Q → PairedOrder → Result RangePrices ℕ
  opening_range s o =
      unless (room_refusal s.halted s.waiting)
      (and_then (permitted_range o.side o.limit (w.market.shows s.position))
      (λ r. unless (guarantee_refusal o s.opened r) (Ok r)))

  -- One interval is drawn, and the deadline is the room's time plus it. Auctions are counted from 1.
  abbrev pub new_auction : RoomState P Q → PairedOrder → RangePrices → OpenValues
  new_auction s o r = new_open (s.opened + 1) (s.time + w.source.draws s.source) (new_values o r)

  -- If an auction was open, it ends first, cause A.
  abbrev pub after_opening : RoomState P Q → PairedOrder → RangePrices → RoomState P Q
  after_opening s o r =
      record (after_end (byte "A") s) { source = w.source.next s.source; current = Some (new_auction s o r); opened = s.opened + 1 }

  -- The answer is a claim with the room's number and the auction's.
  abbrev pub opening : RoomState P Q → PairedOrder → RoomState P Q × Result ClaimNumbers (RefusalTold F)
  opening s o = outcome (opening_range s o) s (after_opening s o) (λ _. record { room = s.number; auction = s.opened + 1 })

  abbrev pub open_call : RoomState P Q → OpeningRequest → RoomState P Q × Result ClaimNumbers (RefusalTold F)
  open_call s x = timed_call (open_checks x) s x.time (λ u. opening u x.order)
