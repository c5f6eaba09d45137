-- What the laws of a fill list, of what the contra may take, and of the order of the rows leave open together: nothing.
use Rattle.std.specs.Prelude.{◌≡◌, ℕ, ◌*◌, ◌/◌, max, Bool, cond, List, ℤ, length, ◌==◌}
use Rattle.market.specs.declared.side.Side.{Side}
use Rattle.allocation.specs.declared.fill.FillRow.{FillRow}
use Rattle.allocation.specs.declared.order.Guarantee.{Guarantee}
use Rattle.allocation.specs.declared.response.Key.{Key}
use Rattle.allocation.specs.ContraLaws.{ContraLaws}
use Rattle.allocation.specs.FillLaws.{StoodResponse, FillLaws}
use Rattle.allocation.specs.OnlyShares.{OnlyTheseShares}
use Rattle.allocation.specs.RowLaws.{RowLaws}

-- Whatever rows keep the laws, they are these.
abbrev pub OnlyTheseRows : Side → ℕ → ℤ → Guarantee → ℤ → ℕ → (Key → Key → Bool) → List StoodResponse → List FillRow → Type 0
OnlyTheseRows side size floor guarantee initiating guaranteed ahead stood rows =
    (fs : List FillRow) → FillLaws side size floor initiating stood fs
    → ContraLaws side guarantee initiating guaranteed fs → RowLaws side ahead stood fs → fs ≡ rows

-- The contra's guaranteed share, in contracts, by the order's size and by how many responses stood: 50% where just one did, and
-- else 40%, rounded down; at least 1. The law says it itself, and does not take it from the split.
abbrev pub lawful_share : ℕ → ℕ → ℕ
lawful_share size stood = max 1 (cond (stood == 1) (size * 50 / 100) (size * 40 / 100))

-- The order's side and size, the floor, the guarantee as stored and the initiating price (turned), the ranking, the responses
-- that stood, and the rows. The contra's guaranteed share goes by the order's size and by how many stood.
pub record LawfulRows (side : Side) (size : ℕ) (floor : ℤ) (guarantee : Guarantee) (initiating : ℤ) (ahead : Key → Key → Bool) (stood : List StoodResponse) (rows : List FillRow) : Type 0 where
  -- The rows keep the laws of a fill list,
  pub fill_laws : FillLaws side size floor initiating stood rows
  -- those of what the contra may take,
  pub contra_laws : ContraLaws side guarantee initiating (lawful_share size (length stood)) rows
  -- and those of the order of the rows;
  pub row_laws : RowLaws side ahead stood rows
  -- no other shares keep the first two,
  pub only_shares : OnlyTheseShares side size floor guarantee initiating (lawful_share size (length stood)) stood rows
  -- and no other rows keep all three.
  pub only_rows : OnlyTheseRows side size floor guarantee initiating (lawful_share size (length stood)) ahead stood rows
