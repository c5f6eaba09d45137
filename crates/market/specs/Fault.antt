-- Market faults: a cause, told by its number, and a place.
use Rattle.std.specs.Prelude.{ℕ, Err, Result}
use Rattle.market.specs.declared.fault.Cause.{Cause}
use Rattle.market.specs.declared.fault.Cause.TheVariants.{NoSuchLeg, BeyondLimit, BidNotBelowOffer}
use Rattle.market.specs.declared.fault.Fault.{Fault}

-- A fault as it is told: the number of its cause, and its place.
pub record FaultTold : Type 0 where
  pub cause : ℕ
  pub place : ℕ

-- 1 no such leg, 2 price beyond the limit, 3 bid not below offer.
abbrev pub cause_number : Cause → ℕ
cause_number NoSuchLeg = 1
cause_number BeyondLimit = 2
cause_number BidNotBelowOffer = 3

-- What is told of a fault.
abbrev pub fault_told : Fault → FaultTold
fault_told f = record { cause = cause_number f.cause; place = f.place }

-- A tick refused for the cause of this number at this place.
abbrev pub fault : ℕ → ℕ → Result (Unit {0}) FaultTold
fault cause place = Err (record { cause = cause; place = place })
