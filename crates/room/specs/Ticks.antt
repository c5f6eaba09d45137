-- Ticks, and the causes for which one ends the open auction.
use Rattle.std.specs.Prelude.{ℕ, Bool, false, cond, List, ℤ, Some, None, Ok, Err, Option, Result, int_lt}
use Rattle.std.specs.Str.{byte}
use Rattle.market.specs.declared.quote.Quote.{Quote}
use Rattle.market.specs.declared.range.TurnedQuote.{TurnedQuote}
use Rattle.market.specs.Range.{turned_quote}
use Rattle.allocation.specs.declared.order.GuaranteeKind.{GuaranteeKind}
use Rattle.allocation.specs.declared.order.GuaranteeKind.TheVariants.{SingleStop, AutoMatchLimit}
use Rattle.allocation.specs.declared.response.Response.{Response}
use Rattle.allocation.specs.Auction.{AuctionValues, with_floor}
use Rattle.allocation.specs.Table.{any_below}
use Rattle.room.specs.Checks.{time_checks}
use Rattle.room.specs.Clock.{timed_call}
use Rattle.room.specs.Refusals.{RefusalTold, by_fault}
use Rattle.room.specs.State.{OpenValues, RoomState, at_position, with_current, after_end}
use Rattle.room.specs.World.{World}

-- A shown price is above a price; a side with no price is above nothing.
abbrev pub shown_above : Option ℤ → ℤ → Bool
shown_above None _ = false
shown_above (Some f) z = int_lt z f

-- A shown price is below a price; a side with no price is below nothing.
abbrev pub shown_below : Option ℤ → ℤ → Bool
shown_below None _ = false
shown_below (Some f) z = int_lt f z

-- A shown floor is above a response that stands.
abbrev pub above_response : Option ℤ → List Response → Bool
above_response None _ = false
above_response (Some f) xs = any_below f xs

-- A shown floor is above the stop, where the guarantee is a single stop.
abbrev pub above_stop : Option ℤ → GuaranteeKind → ℤ → Bool
above_stop floor SingleStop price = shown_above floor price
above_stop _ AutoMatchLimit _ = false

-- The cause of this letter where the test holds, and otherwise what the further tests say.
abbrev pub ends_for : Bool → ℕ → Option ℕ → Option ℕ
ends_for test c further = cond test (Some c) further

-- The first of these that holds ends the auction: B, the new floor above the initiating price; C, above a
-- standing response; D, single stop and above the stop; F, the new contra price below the guarantee.
abbrev pub tick_cause : AuctionValues → TurnedQuote → Option ℕ
tick_cause v q =
    ends_for (shown_above q.floor v.initiating) (byte "B")
    (ends_for (above_response q.floor v.stood) (byte "C")
    (ends_for (above_stop q.floor v.order.guarantee.kind v.order.guarantee.price) (byte "D")
    (ends_for (shown_below q.contra v.order.guarantee.price) (byte "F") None)))

-- A shown floor takes the place of the floor; a side with no price changes nothing.
abbrev pub floor_now : Option ℤ → ℤ → ℤ
floor_now None z = z
floor_now (Some f) z = f

-- The open auction with another floor.
abbrev pub at_floor : ℤ → OpenValues → OpenValues
at_floor f a = record a { values = with_floor a.values f }

module _ {P Q : Type 0} where
  -- The auction that a tick ends keeps the floor from before the tick; with no end, the new floor counts.
  abbrev pub after_tick_cause : Option ℕ → TurnedQuote → RoomState P Q → OpenValues → RoomState P Q
  after_tick_cause (Some c) q s a = after_end c s
  after_tick_cause None q s a = with_current (at_floor (floor_now q.floor a.values.floor) a) s

  -- What the market now shows to the open auction, if there is one.
  abbrev pub after_shown : Option OpenValues → Quote → RoomState P Q → RoomState P Q
  after_shown None q s = s
  after_shown (Some a) q s =
      let f = turned_quote a.values.order.side q in after_tick_cause (tick_cause a.values f) f s a

module _ {P T F Q : Type 0} (w : World P T F Q) where
  -- After an accepted tick the market has its next position, and the open auction takes notice of what it
  -- shows. A refused tick changes nothing, and its refusal holds the market's fault.
  abbrev pub ticking_by : Result (Unit {0}) F → RoomState P Q → T → RoomState P Q × Result (Unit {0}) (RefusalTold F)
  ticking_by (Ok _) s t =
      let p = w.market.next s.position t in (after_shown s.current (w.market.shows p) (at_position p s), Ok tt)
  ticking_by (Err f) s t = (s, Err (by_fault f))

  abbrev pub ticking : RoomState P Q → T → RoomState P Q × Result (Unit {0}) (RefusalTold F)
  ticking s t = ticking_by (w.market.answer s.position t) s t

  abbrev pub tick_call : RoomState P Q → ℕ → T → RoomState P Q × Result (Unit {0}) (RefusalTold F)
  tick_call s time t = timed_call (time_checks time) s time (λ u. ticking u t)
