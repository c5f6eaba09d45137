-- How the contracts that are left are split at one level among customers, contra and others.
use Rattle.std.specs.Prelude.{ℕ, ◌+◌, ◌-◌, ◌*◌, ◌/◌, min, max, cond, ℤ, ◌==◌, int_lt, nat_le}
use Rattle.allocation.specs.declared.order.ContraTerms.{ContraTerms}
use Rattle.allocation.specs.declared.order.GuaranteeKind.{GuaranteeKind}
use Rattle.allocation.specs.declared.order.GuaranteeKind.TheVariants.{SingleStop, AutoMatchLimit}
pub use Rattle.allocation.specs.declared.split.Rest.{Rest}
pub use Rattle.allocation.specs.declared.split.Split.{Split}

-- The contra's guaranteed share of an order: 40% of its size rounded down, 50% with just one response standing, and at
-- least 1.
abbrev pub guaranteed_share : ℕ → ℕ → ℕ
guaranteed_share size standing = max 1 (size * cond (standing == 1) 50 40 / 100)

-- The others, of size n together, share the r contracts.
abbrev pub others_share : ℕ → ℕ → Rest
others_share r n = record { contra = 0; others = min r n }

-- The contra matches both classes together, w, and the others get all they asked for.
abbrev pub whole_match : ℕ → ℕ → Rest
whole_match w n = record { contra = w; others = n }

-- The clean-up: the contra takes the lesser of r and g, the others share, and the contra takes the rest.
abbrev pub clean_up : ℕ → ℕ → ℕ → Rest
clean_up r g n = record { contra = min r g + (r - min r g - min (r - min r g) n); others = min (r - min r g) n }

-- Neither gets any.
abbrev pub nothing_trades : Rest
nothing_trades = record { contra = 0; others = 0 }

-- Single stop: below the stop the others share; at the stop it is the clean-up with the guaranteed share; beyond it
-- nothing trades.
abbrev pub stop_rest : ContraTerms → ℤ → ℕ → ℕ → Rest
stop_rest t price r n =
    cond (int_lt price t.guarantee.price)
    (others_share r n)
    (cond (int_lt t.guarantee.price price) nothing_trades (clean_up r t.guaranteed n))

-- Auto-match limit, between its price and the initiating price: if the contra's contracts so far, m, have reached the
-- guaranteed share, the others share; else, if r is enough for the others, n, and for both classes, c + n, once more,
-- the contra matches both; otherwise it is the clean-up, with what m lacks of the guaranteed share.
abbrev pub match_between : ContraTerms → ℕ → ℕ → ℕ → ℕ → Rest
match_between t r m c n =
    cond (nat_le t.guaranteed m)
    (others_share r n)
    (cond (nat_le (n + (c + n)) r) (whole_match (c + n) n) (clean_up r (t.guaranteed - m) n))

-- Auto-match limit: below its price the others share, and the initiating price is always a clean-up.
abbrev pub match_rest : ContraTerms → ℤ → ℕ → ℕ → ℕ → ℕ → Rest
match_rest t price r m c n =
    cond (int_lt price t.guarantee.price)
    (others_share r n)
    (cond (int_lt price t.initiating) (match_between t r m c n) (clean_up r (t.guaranteed - m) n))

-- By the kind of guarantee.
abbrev pub rest_by : GuaranteeKind → ContraTerms → ℤ → ℕ → ℕ → ℕ → ℕ → Rest
rest_by SingleStop t price r m c n = stop_rest t price r n
rest_by AutoMatchLimit t price r m c n = match_rest t price r m c n

-- What the customers get, with what the contra and the others get of the rest.
abbrev pub with_customers : ℕ → Rest → Split
with_customers k rest = record { customers = k; contra = rest.contra; others = rest.others }

-- The split of r contracts at a level: m are the contra's contracts so far, c and n the customers' and the others'
-- total size there.
abbrev pub split : ContraTerms → ℤ → ℕ → ℕ → ℕ → ℕ → Split
split t price r m c n = with_customers (min r c) (rest_by t.guarantee.kind t price (r - min r c) m c n)

-- The contracts that a level takes in all.
abbrev pub total_taken : Split → ℕ
total_taken s = s.customers + (s.contra + s.others)
