-- Limits of prices, and of ratios and steps. Prices are signed whole cents, what the buyer of the strategy
-- pays for one unit; negative where the buyer receives.
use Rattle.std.specs.Prelude.{ℕ, Bool, true, ◌&&◌, ℤ, pos, neg_ℤ, Some, None, Option, nat_le, unsigned_abs}
use Rattle.std.specs.Int.{int_max, int_min}

-- At most `n` cents either way, where there is a price.
abbrev pub within : ℕ → Option ℤ → Bool
within n None = true
within n (Some z) = nat_le (unsigned_abs z) n

-- The limits of prices that are sent in: −40,000,000 to 40,000,000.
abbrev pub in_limits : Option ℤ → Bool
in_limits = within 40000000

-- The limits of prices that a market shows: at most 50,000,000 either way.
abbrev pub showable : Option ℤ → Bool
showable = within 50000000

-- The price that a market may show nearest to this one.
abbrev pub nearest_showable : ℤ → ℤ
nearest_showable z = int_max (neg_ℤ (pos 50000000)) (int_min z (pos 50000000))

-- Ratios and steps are 1 to 9.
abbrev pub one_to_nine : ℕ → Bool
one_to_nine n = nat_le 1 n && nat_le n 9
