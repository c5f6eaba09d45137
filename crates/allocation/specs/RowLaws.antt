-- In which order the rows of a fill list stand, in the words of those who are filled: by rows, the responses that stood,
-- and the ranking.
use Rattle.std.specs.Prelude.{◌≡◌, ◌≢◌, ℕ, ◌+◌, ◌*◌, ◌/◌, ◌≤◌, Bool, true, cond, List, ◌≤ℤ◌}
use Rattle.std.specs.List.{AllByRecursion}
use Rattle.market.specs.declared.side.Side.{Side}
use Rattle.allocation.specs.declared.fill.FillRow.{FillRow}
use Rattle.allocation.specs.declared.response.Key.{Key}
use Rattle.allocation.specs.ContraLaws.{of_contra, of_customer, row_price}
use Rattle.allocation.specs.FillLaws.{StoodResponse, listing_of, row_listing, of_response, filled_in, size_in, classmate, classmates}
use Rattle.allocation.specs.Ranking.{AllInOrder}

-- The order at one price: customers' rows, the contra's, others'.
abbrev pub order_at_price : FillRow → ℕ
order_at_price f = cond (of_customer f) 0 (cond (of_contra f) 1 2)

-- What a ranking may look at of a response that stood.
abbrev pub stood_key : StoodResponse → Key
stood_key x = record { member = x.member; size = x.size; arrival = x.arrival }

-- A row lists this response.
abbrev pub Lists : FillRow → StoodResponse → Type 0
Lists f x = row_listing f ≡ listing_of x

-- The response that the first row lists is ahead of the one that the second lists.
abbrev pub RankedAhead : (Key → Key → Bool) → List StoodResponse → FillRow → FillRow → Type 0
RankedAhead ahead stood f g =
    AllByRecursion (λ x. AllByRecursion (λ y. Lists f x → Lists g y
    → ahead (stood_key x) (stood_key y) ≡ true) stood) stood

-- It got one contract more than K × size / T rounded down, where K is what the responses of its class got at its price in all
-- and T their total size.
abbrev pub GotOneMore : List FillRow → FillRow → Type 0
GotOneMore rows f = f.filled ≡ filled_in (classmates f rows) * (f.filled + f.left) / size_in (classmates f rows) + 1

-- The order's side, the ranking, the responses that stood, and the rows.
pub record RowLaws (side : Side) (ahead : Key → Key → Bool) (stood : List StoodResponse) (rows : List FillRow) : Type 0 where
  -- No row stands behind one of a worse (higher turned) price.
  pub by_price : AllInOrder (λ f g. row_price side f ≤ℤ row_price side g) rows
  -- At one price customers' rows come first, then the contra's, then others'.
  pub by_class : AllInOrder (λ f g. f.price ≡ g.price → order_at_price f ≤ order_at_price g) rows
  -- The contra has at most one row at a price.
  pub one_contra : AllInOrder (λ f g. of_contra f ≡ true → of_contra g ≡ true → f.price ≢ g.price) rows
  -- The rows of a class at a price stand in ranking order, by member, stored size and arrival.
  pub by_ranking : AllInOrder (λ f g. of_response f ≡ true → classmate f g ≡ true → RankedAhead ahead stood f g) rows
  -- The odd contracts of a class at a price go one each in that order: none got one more behind a row that did not.
  pub odd_first : AllInOrder (λ f g. of_response f ≡ true → classmate f g ≡ true → GotOneMore rows g → GotOneMore rows f) rows
