-- What an order can rely on, whatever the market: which refusal it earns, and what holds of a range that it
-- is given.
use Rattle.std.specs.Prelude.{◌≡◌, ℕ, true, false, ◌⊎◌, ℤ, neg_ℤ, ◌≤ℤ◌, ◌<ℤ◌, Some, None, Ok, Err, Result}
use Rattle.std.specs.Int.{int_max, int_min}
use Rattle.std.specs.Option.{option_map}
use Rattle.std.specs.Result.{result_err}
use Rattle.market.specs.declared.quote.Quote.{Quote}
use Rattle.market.specs.declared.side.Side.{Side}
use Rattle.market.specs.declared.side.Side.TheVariants.{Buy, Sell}
use Rattle.market.specs.Limits.{in_limits}
use Rattle.market.specs.Range.{RangePrices, turned_quote, permitted_range, lowest_price, highest_price}
use Rattle.market.specs.Side.{turned_price}

-- The initiating price is the limit or the contra price, and above neither; the floor is not above it.
pub record InRange (limit : ℤ) (r : RangePrices) : Type 0 where
  pub from_floor : r.floor ≤ℤ r.initiating
  pub to_limit : r.initiating ≤ℤ limit
  pub to_contra : r.initiating ≤ℤ r.contra
  pub one_of_both : (r.initiating ≡ limit) ⊎ (r.initiating ≡ r.contra)

-- A range with these prices for this side, if the answer is one.
abbrev pub Gives : Result RangePrices ℕ → Side → ℤ → ℤ → ℤ → Type 0
Gives (Ok r) side floor contra limit = (r.side ≡ side) × (r.floor ≡ floor) × (r.contra ≡ contra) × InRange limit r
Gives (Err e) side floor contra limit = ⊥

-- A range as the strategy is priced: a buy from the shown bid up to the lower of limit and shown offer, a
-- sell from the higher of limit and shown bid up to the shown offer.
abbrev pub PlainPrices : Side → ℤ → ℤ → ℤ → RangePrices → Type 0
PlainPrices Buy limit bid offer r = (lowest_price r ≡ bid) × (highest_price r ≡ int_min limit offer)
PlainPrices Sell limit bid offer r = (lowest_price r ≡ int_max limit bid) × (highest_price r ≡ offer)

-- The market as the other side sees it: a bid is an offer of the turned price.
abbrev pub mirror_of : Quote → Quote
mirror_of q = record { bid = option_map neg_ℤ q.offer; offer = option_map neg_ℤ q.bid }

-- The same range, of a sell order.
abbrev pub as_sell : Result RangePrices ℕ → Result RangePrices ℕ
as_sell (Ok r) = Ok (record { side = Sell; floor = r.floor; contra = r.contra; initiating = r.initiating })
as_sell (Err e) = Err e

pub record RangeLaws (side : Side) (limit : ℤ) (q : Quote) (answer : Result RangePrices ℕ) : Type 0 where
  -- 2: the limit price is more than 40,000,000 either way.
  pub outside_limits : in_limits (Some limit) ≡ false → result_err answer ≡ Some 2
  -- 14: a side shows no price.
  pub no_floor : in_limits (Some limit) ≡ true → (turned_quote side q).floor ≡ None → result_err answer ≡ Some 14
  pub no_contra : in_limits (Some limit) ≡ true → (turned_quote side q).contra ≡ None → result_err answer ≡ Some 14
  -- 15: the limit or the contra price is below the floor.
  pub below_floor : in_limits (Some limit) ≡ true
      → (floor contra : ℤ) → (turned_quote side q).floor ≡ Some floor → (turned_quote side q).contra ≡ Some contra
      → (turned_price side limit <ℤ floor) ⊎ (contra <ℤ floor)
      → result_err answer ≡ Some 15
  -- Otherwise there is a range, of the shown floor and contra price.
  pub in_range : in_limits (Some limit) ≡ true
      → (floor contra : ℤ) → (turned_quote side q).floor ≡ Some floor → (turned_quote side q).contra ≡ Some contra
      → floor ≤ℤ turned_price side limit → floor ≤ℤ contra
      → Gives answer side floor contra (turned_price side limit)
  -- A range, as the strategy is priced.
  pub plain_prices : (bid offer : ℤ) → q.bid ≡ Some bid → q.offer ≡ Some offer
      → (r : RangePrices) → answer ≡ Ok r → PlainPrices side limit bid offer r
  -- A sell order is answered as the buy order that a mirror shows.
  pub sell_mirrors_buy : side ≡ Sell → answer ≡ as_sell (permitted_range Buy (neg_ℤ limit) (mirror_of q))
