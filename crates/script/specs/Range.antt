-- What a question for a range is told.
use Rattle.market.specs.Range.{RangePrices, lowest_price, highest_price}
use Rattle.market.specs.Side.{turned_price}
use Rattle.script.specs.declared.transcript.range.RangeTold.{RangeTold}

-- The lowest and the highest permitted price, and the initiating price, none turned.
abbrev pub range_told : RangePrices → RangeTold
range_told r = record { lowest = lowest_price r; highest = highest_price r; initiating = turned_price r.side r.initiating }
