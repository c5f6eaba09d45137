-- What the CUBE market holds after ticks, said from the legs as they were given and the ticks alone: the
-- book has its last accepted quote, and none before the first; each leg has its last accepted one, and
-- before the first the one that it came with, if any.
use Rattle.std.specs.Prelude.{ℕ, suc, cond, ◌&&◌, List, [], ◌∷◌, length, is_ok, Some, Option, ◌==◌}
use Rattle.market.specs.declared.better_of.Half.TheVariants.{Left, Right}
use Rattle.market.specs.declared.leg.Leg.{Leg}
use Rattle.market.specs.declared.leg.LegQuote.{LegQuote}
use Rattle.market.specs.declared.quote.Quote.{Quote}
use Rattle.market.specs.Cube.{CubeTicks}
use Rattle.market.specs.Leg.{tick_answer}
use Rattle.market.specs.Market.{Meaning, nothing_shown}
use Rattle.market.specs.Touch.{touch_answer}

-- The position after ticks, taken in their order.
abbrev pub position_after : {P T F : Type 0} → Meaning P T F → P → List T → P
position_after m p [] = p
position_after m p (t ∷ ts) = position_after m (m.next p t) ts

-- The last of a list, or `d` where it is empty.
abbrev pub last_or : {X : Type 0} → X → List X → X
last_or d [] = d
last_or d (x ∷ xs) = last_or x xs

-- The quotes that a book accepts of these ticks, in their order.
abbrev pub book_quotes : CubeTicks → List Quote
book_quotes [] = []
book_quotes (Left q ∷ ts) = cond (is_ok (touch_answer q)) (q ∷ book_quotes ts) (book_quotes ts)
book_quotes (Right t ∷ ts) = book_quotes ts

-- The quotes that leg `n` of `count` legs accepts of these ticks, in their order.
abbrev pub leg_quotes : ℕ → ℕ → CubeTicks → List (Option LegQuote)
leg_quotes count n [] = []
leg_quotes count n (Left q ∷ ts) = leg_quotes count n ts
leg_quotes count n (Right t ∷ ts) =
    cond (t.leg == n && is_ok (tick_answer count t))
    (Some t.quote ∷ leg_quotes count n ts)
    (leg_quotes count n ts)

-- The book's last accepted quote; no price before the first.
abbrev pub last_book : CubeTicks → Quote
last_book ts = last_or nothing_shown (book_quotes ts)

-- A leg with the last quote that it took, or the one that it had.
abbrev pub with_last_quote : List (Option LegQuote) → Leg → Leg
with_last_quote qs l = record { side = l.side; ratio = l.ratio; quote = last_or l.quote qs }

-- Each leg, the first of them numbered `n`, with the last quote that it took.
abbrev pub legs_from : ℕ → ℕ → List Leg → CubeTicks → List Leg
legs_from count n [] ts = []
legs_from count n (l ∷ ls) ts = with_last_quote (leg_quotes count n ts) l ∷ legs_from count (suc n) ls ts

-- The legs, each with its last accepted quote.
abbrev pub last_legs : List Leg → CubeTicks → List Leg
last_legs ls ts = legs_from (length ls) 1 ls ts
