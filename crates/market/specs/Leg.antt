-- One leg of a strategy: what holds of it, the price of its quote that counts, what it adds, and how it
-- takes a tick.
use Rattle.std.specs.Prelude.{ℕ, Bool, true, false, cond, ◌&&◌, ℤ, pos, ◌+ℤ◌, ◌*ℤ◌, Some, None, Ok, Option, Result, int_le, int_lt, nat_le}
use Rattle.std.specs.Option.{option_map}
use Rattle.market.specs.declared.leg.Leg.{Leg}
use Rattle.market.specs.declared.leg.LegQuote.{LegQuote}
use Rattle.market.specs.declared.leg.LegTerms.{LegTerms}
use Rattle.market.specs.declared.leg.LegTick.{LegTick}
use Rattle.market.specs.declared.leg.QuoteSide.{QuoteSide}
use Rattle.market.specs.declared.leg.QuoteSide.TheVariants.{Bid, Offer}
use Rattle.market.specs.declared.side.Side.{Side}
use Rattle.market.specs.declared.side.Side.TheVariants.{Buy, Sell}
use Rattle.market.specs.Fault.{FaultTold, fault}
use Rattle.market.specs.Limits.{one_to_nine}
use Rattle.market.specs.Side.{turned_price}

-- A leg's price is 0 to 1,000,000.
abbrev pub leg_price_ok : ℤ → Bool
leg_price_ok z = int_le (pos 0) z && int_le z (pos 1000000)

-- Both prices, and the bid below the offer.
abbrev pub leg_quote_ok : LegQuote → Bool
leg_quote_ok q = leg_price_ok q.bid && leg_price_ok q.offer && int_lt q.bid q.offer

-- The quote that a leg took last, if any.
abbrev pub last_quote_ok : Option LegQuote → Bool
last_quote_ok None = true
last_quote_ok (Some q) = leg_quote_ok q

-- Ratio and quote.
abbrev pub leg_ok : Leg → Bool
leg_ok l = one_to_nine l.ratio && last_quote_ok l.quote

-- A leg that may be missing.
abbrev pub optional_leg_ok : Option Leg → Bool
optional_leg_ok None = true
optional_leg_ok (Some l) = leg_ok l

-- A fourth leg stands only beside a third.
abbrev pub third_before_fourth : Option Leg → Option Leg → Bool
third_before_fourth None (Some l) = false
third_before_fourth _ _ = true

-- A new leg has no quote.
abbrev pub new_leg : LegTerms → Leg
new_leg t = record { side = t.side; ratio = t.ratio; quote = None }

-- The shown bid takes the bid of a bought leg and the offer of a sold one; the shown offer has the two
-- exchanged.
abbrev pub leg_price : QuoteSide → Side → LegQuote → ℤ
leg_price Bid Buy q = q.bid
leg_price Bid Sell q = q.offer
leg_price Offer Buy q = q.offer
leg_price Offer Sell q = q.bid

-- A quoted leg adds ratio × price if it is bought, and takes it away if it is sold.
abbrev pub leg_part : QuoteSide → Leg → Option ℤ
leg_part w l = option_map (λ q. turned_price l.side (pos l.ratio *ℤ leg_price w l.side q)) l.quote

-- A sum has a price where both its parts have one.
abbrev pub plus : Option ℤ → Option ℤ → Option ℤ
plus (Some x) (Some y) = Some (x +ℤ y)
plus _ _ = None

-- A leg with a new quote.
abbrev pub with_quote : LegQuote → Leg → Leg
with_quote q l = record { side = l.side; ratio = l.ratio; quote = Some q }

-- A tick is for a leg that there is, its prices are 0 to 1,000,000, the bid looked at first, and the bid is
-- below the offer. The fault's place is the leg number.
abbrev pub tick_answer : ℕ → LegTick → Result (Unit {0}) FaultTold
tick_answer count t =
    cond (nat_le 1 t.leg && nat_le t.leg count)
    (cond (leg_price_ok t.quote.bid)
    (cond (leg_price_ok t.quote.offer)
    (cond (int_lt t.quote.bid t.quote.offer) (Ok tt) (fault 3 t.leg))
    (fault 2 t.leg))
    (fault 2 t.leg))
    (fault 1 t.leg)
