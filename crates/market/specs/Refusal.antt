-- The refusals of this layer, told by their numbers.
use Rattle.std.specs.Prelude.{ℕ}
use Rattle.market.specs.declared.refusal.SetupRefusal.{SetupRefusal}
use Rattle.market.specs.declared.refusal.SetupRefusal.TheVariants.{RatioOrStep, FifthLeg}
use Rattle.market.specs.declared.refusal.RangeRefusal.{RangeRefusal}
use Rattle.market.specs.declared.refusal.RangeRefusal.TheVariants.{PriceOutsideLimits, SideShowsNoPrice, InitiatingBelowFloor}

-- Making a market: 9 a ratio or a step outside 1 to 9, 10 a fifth leg.
abbrev pub setup_number : SetupRefusal → ℕ
setup_number RatioOrStep = 9
setup_number FifthLeg = 10

-- Asking for a range: 2 a price outside the limits, 14 a side that shows no price, 15 an initiating price
-- below the floor.
abbrev pub range_number : RangeRefusal → ℕ
range_number PriceOutsideLimits = 2
range_number SideShowsNoPrice = 14
range_number InitiatingBelowFloor = 15
