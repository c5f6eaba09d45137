-- The permitted range of an order, on turned prices: from the floor to the initiating price.
use Rattle.std.specs.Prelude.{ℕ, cond, ℤ, neg_ℤ, Some, Ok, Err, Option, Result, int_lt}
use Rattle.std.specs.Int.{int_max, int_min}
use Rattle.std.specs.Option.{option_map}
use Rattle.std.specs.Result.{result_map_both}
use Rattle.market.specs.declared.quote.Quote.{Quote}
use Rattle.market.specs.declared.range.PermittedRange.{PermittedRange}
use Rattle.market.specs.declared.range.TurnedQuote.{TurnedQuote}
use Rattle.market.specs.declared.refusal.RangeRefusal.{RangeRefusal}
use Rattle.market.specs.declared.side.Side.{Side}
use Rattle.market.specs.declared.side.Side.TheVariants.{Buy, Sell}
use Rattle.market.specs.Limits.{in_limits}
use Rattle.market.specs.Refusal.{range_number}
use Rattle.market.specs.Side.{turned_price}

-- The floor is the shown bid and the contra price the shown offer; for a sell order, the turned offer and
-- the turned bid. A side with no price has none turned either.
abbrev pub turned_quote : Side → Quote → TurnedQuote
turned_quote Buy q = record { floor = q.bid; contra = q.offer }
turned_quote Sell q = record { floor = option_map neg_ℤ q.offer; contra = option_map neg_ℤ q.bid }

-- A range: the order's side and three turned prices.
pub record RangePrices : Type 0 where
  pub side : Side
  pub floor : ℤ
  pub contra : ℤ
  pub initiating : ℤ

-- The initiating price is the lower of limit and contra price; below the floor, it is refusal 15.
abbrev pub range_from : Side → ℤ → ℤ → ℤ → Result RangePrices ℕ
range_from side limit floor contra =
    cond (int_lt (int_min limit contra) floor)
    (Err 15)
    (Ok (record { side = side; floor = floor; contra = contra; initiating = int_min limit contra }))

-- A side that shows no price is refusal 14.
abbrev pub range_faced : Side → ℤ → Option ℤ → Option ℤ → Result RangePrices ℕ
range_faced side limit (Some floor) (Some contra) = range_from side limit floor contra
range_faced side limit _ _ = Err 14

-- What a market that shows `q` permits an order of a side and a limit price; a limit price outside
-- −40,000,000 to 40,000,000 is refusal 2.
abbrev pub permitted_range : Side → ℤ → Quote → Result RangePrices ℕ
permitted_range side limit q =
    cond (in_limits (Some limit))
    (range_faced side (turned_price side limit) (turned_quote side q).floor (turned_quote side q).contra)
    (Err 2)

-- The prices of a range.
abbrev pub range_prices : PermittedRange → RangePrices
range_prices r = record { side = r.side; floor = r.floor; contra = r.contra; initiating = r.initiating }

-- The prices, or the refusal's number.
abbrev pub range_answer : Result PermittedRange RangeRefusal → Result RangePrices ℕ
range_answer = result_map_both range_prices range_number

-- The lowest permitted price as the strategy is priced: floor or initiating price, turned back.
abbrev pub lowest_price : RangePrices → ℤ
lowest_price r = int_min (turned_price r.side r.floor) (turned_price r.side r.initiating)

-- The highest permitted price, turned back.
abbrev pub highest_price : RangePrices → ℤ
highest_price r = int_max (turned_price r.side r.floor) (turned_price r.side r.initiating)
