-- What the laws of a fill list and those of what the contra may take leave open together.
use Rattle.std.specs.Prelude.{◌≡◌, ℕ, List, ℤ}
use Rattle.market.specs.declared.side.Side.{Side}
use Rattle.allocation.specs.declared.fill.FillRow.{FillRow}
use Rattle.allocation.specs.declared.order.Guarantee.{Guarantee}
use Rattle.allocation.specs.ContraLaws.{of_contra, of_customer, of_other, priced_at, fill_of, ContraLaws}
use Rattle.allocation.specs.FillLaws.{StoodResponse, FillLaws}

-- Two lists of rows give customers, the contra and others as many contracts at every price.
abbrev pub SameShares : Side → List FillRow → List FillRow → Type 0
SameShares side fs gs =
    (z : ℤ)
    → (fill_of of_customer (priced_at side z) fs ≡ fill_of of_customer (priced_at side z) gs)
    × (fill_of of_contra (priced_at side z) fs ≡ fill_of of_contra (priced_at side z) gs)
    × (fill_of of_other (priced_at side z) fs ≡ fill_of of_other (priced_at side z) gs)

-- Whatever rows keep the laws, they have the same shares as these.
abbrev pub OnlyTheseShares : Side → ℕ → ℤ → Guarantee → ℤ → ℕ → List StoodResponse → List FillRow → Type 0
OnlyTheseShares side size floor guarantee initiating guaranteed stood rows =
    (fs : List FillRow) → FillLaws side size floor initiating stood fs
    → ContraLaws side guarantee initiating guaranteed fs → SameShares side fs rows
