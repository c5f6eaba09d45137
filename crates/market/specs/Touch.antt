-- Touch: a tick gives a bid and an offer, each a price or none; before the first there is none.
use Rattle.std.specs.Prelude.{Bool, true, cond, ℤ, is_ok, Some, Ok, Option, Result, int_lt}
use Rattle.market.specs.declared.quote.Quote.{Quote}
use Rattle.market.specs.declared.touch.Touch.{Touch}
use Rattle.market.specs.Fault.{FaultTold, fault}
use Rattle.market.specs.Limits.{in_limits}
use Rattle.market.specs.Market.{Meaning}

-- A touch is at the quote that it took last.
abbrev pub touch_quote : Touch → Quote
touch_quote t = t.quote

-- Where both are given, the bid is below the offer.
abbrev pub in_order : Option ℤ → Option ℤ → Bool
in_order (Some b) (Some o) = int_lt b o
in_order _ _ = true

-- Prices are −40,000,000 to 40,000,000, the bid is looked at first (place 0), then the offer (place 1);
-- then, where both are given, the bid is below the offer (place 0).
abbrev pub touch_answer : Quote → Result (Unit {0}) FaultTold
touch_answer q =
    cond (in_limits q.bid)
    (cond (in_limits q.offer)
    (cond (in_order q.bid q.offer) (Ok tt) (fault 3 0))
    (fault 2 1))
    (fault 2 0)

-- An accepted quote takes the place of the one before.
abbrev pub touch_next : Quote → Quote → Quote
touch_next p q = cond (is_ok (touch_answer q)) q p

-- A touch as a market: it shows the quote that it is at.
abbrev pub touch_meaning : Meaning Quote Quote FaultTold
touch_meaning = record { shows = λ p. p; answer = λ _ q. touch_answer q; next = touch_next }
