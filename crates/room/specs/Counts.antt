-- What holds of an open auction's counts.
use Rattle.std.specs.Prelude.{ℕ, Bool, List, nat_le}
use Rattle.allocation.specs.AuctionInvariant.{each}
use Rattle.allocation.specs.declared.response.Response.{Response}

-- No count is above this.
abbrev pub all_within : ℕ → List ℕ → Bool
all_within most ks = each (λ (k : ℕ). nat_le k most) ks

-- The arrival number of each response was given before.
abbrev pub all_arrived : ℕ → List Response → Bool
all_arrived last xs = each (λ (x : Response). nat_le x.arrival last) xs
