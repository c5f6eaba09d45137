-- What a room is made over: a market, an interval source and a ranking, by their meanings.
use Rattle.std.specs.Prelude.{◌≡◌, Bool, true, not, ◌≢◌}
use Rattle.market.specs.Market.{Meaning, RefusedLeaves}
use Rattle.interval.specs.Source.{SourceMeaning, WithinLimits}
use Rattle.allocation.specs.declared.response.Key.{Key}

-- A market of positions P, ticks T and faults told as F; a source of positions Q; and which of two responses
-- is ahead.
pub record World (P T F Q : Type 0) : Type 0 where
  pub market : Meaning P T F
  pub source : SourceMeaning Q
  pub ahead : Key → Key → Bool

-- The terms that market, source and ranking keep at every position: a refused tick leaves the position; a
-- draw is 100 to 1,000; of two different arrivals exactly one is ahead, and ahead carries on. That a shown
-- price is at most 50,000,000 either way is a term of a market's values, and the laws over runs do not need
-- it.
pub record Terms {P T F Q : Type 0} (w : World P T F Q) : Type 0 where
  pub refused_leaves : RefusedLeaves w.market
  pub drawn_within : WithinLimits w.source
  pub one_ahead : (x y : Key) → (x.arrival ≢ y.arrival) → w.ahead x y ≡ not (w.ahead y x)
  pub carries_on : (x y z : Key) → w.ahead x y ≡ true → w.ahead y z ≡ true → w.ahead x z ≡ true
