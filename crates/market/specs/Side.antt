-- The two sides: the price as an order or a leg of a side sees it, and the side's name.
use Rattle.std.specs.Prelude.{ℕ, List, ℤ, neg_ℤ, codes}
use Rattle.market.specs.declared.side.Side.{Side}
use Rattle.market.specs.declared.side.Side.TheVariants.{Buy, Sell}

-- The turned price: the price itself for a buy, the price with its sign changed for a sell.
abbrev pub turned_price : Side → ℤ → ℤ
turned_price Buy z = z
turned_price Sell z = neg_ℤ z

-- The name of a side, as it is printed.
abbrev pub side_name : Side → List ℕ
side_name Buy = codes "buy"
side_name Sell = codes "sell"
