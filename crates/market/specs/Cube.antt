-- The CUBE market: the Better-of an Improve by 1 over a Touch for the complex book (the left half) and an
-- Improve over Legs by their smallest ratio (the right half).
use Rattle.std.specs.Prelude.{ℕ, List}
use Rattle.market.specs.declared.better_of.BetterOf.{BetterOf}
use Rattle.market.specs.declared.better_of.Half.{Half}
use Rattle.market.specs.declared.fault.Fault.{Fault}
use Rattle.market.specs.declared.improve.Improve.{Improve}
use Rattle.market.specs.declared.legs.Legs.{Legs}
use Rattle.market.specs.declared.leg.Leg.{Leg}
use Rattle.market.specs.declared.leg.LegTick.{LegTick}
use Rattle.market.specs.declared.quote.Quote.{Quote}
use Rattle.market.specs.declared.touch.Touch.{Touch}
use Rattle.market.specs.BetterOf.{better_quote, half_told, better_of_meaning}
use Rattle.market.specs.Fault.{FaultTold, fault_told}
use Rattle.market.specs.Improve.{improved_quote, improve_meaning}
use Rattle.market.specs.Legs.{legs_of, legs_quote, legs_meaning, smallest_ratio}
use Rattle.market.specs.Market.{Meaning, nothing_shown}
use Rattle.market.specs.Touch.{touch_quote, touch_meaning}

-- A tick for the book or for a leg, and a list of them.
abbrev pub CubeTick : Type 0
CubeTick = Half Quote LegTick

abbrev pub CubeTicks : Type 0
CubeTicks = List CubeTick

-- What is told of a fault of the CUBE market: which half's it is, and that fault's cause and place.
abbrev pub CubeFaultTold : Type 0
CubeFaultTold = Half FaultTold FaultTold

abbrev pub cube_fault_told : Half Fault Fault → CubeFaultTold
cube_fault_told = half_told fault_told fault_told

-- The book's quote with its step, and the legs with theirs.
abbrev pub CubePosition : Type 0
CubePosition = (Quote × ℕ) × (List Leg × ℕ)

-- The position of a CUBE market.
abbrev pub cube_position : BetterOf (Improve Touch) (Improve Legs) → CubePosition
cube_position m = ((touch_quote m.left.inner, m.left.step), (legs_of m.right.inner, m.right.step))

-- At the start the book shows no price.
abbrev pub cube_start : List Leg → CubePosition
cube_start ls = ((nothing_shown, 1), (ls, smallest_ratio ls))

-- The pile as a market.
abbrev pub cube_meaning : Meaning CubePosition CubeTick CubeFaultTold
cube_meaning = better_of_meaning (improve_meaning touch_meaning) (improve_meaning legs_meaning)

-- What the CUBE market shows of a book's quote and of legs with theirs.
abbrev pub cube_quote : Quote → List Leg → Quote
cube_quote book ls = better_quote (improved_quote 1 book) (improved_quote (smallest_ratio ls) (legs_quote ls))
