-- What the contra firm may take of a fill list, in the words of those who are filled: by rows and prices alone. Prices are
-- turned.
use Rattle.std.specs.Prelude.{◌≡◌, ℕ, ◌+◌, ◌<◌, ◌≤◌, Bool, true, not, ◌&&◌, ◌⊎◌, List, ℤ, ◌≤ℤ◌, ◌<ℤ◌, int_lt}
use Rattle.std.specs.List.{AllByRecursion}
use Rattle.market.specs.declared.side.Side.{Side}
use Rattle.market.specs.Side.{turned_price}
use Rattle.allocation.specs.declared.fill.FillRow.{FillRow}
use Rattle.allocation.specs.declared.order.Guarantee.{Guarantee}
use Rattle.allocation.specs.declared.order.GuaranteeKind.{GuaranteeKind}
use Rattle.allocation.specs.declared.order.GuaranteeKind.TheVariants.{SingleStop, AutoMatchLimit}
use Rattle.allocation.specs.declared.response.Class.TheVariants.{Customer, Other}
use Rattle.allocation.specs.FillLaws.{of_response, those, filled_in, size_in, same_price, same_class}

-- Rows that are of no response are the contra's.
abbrev pub of_contra : FillRow → Bool
of_contra f = not (of_response f)

-- Rows of customers, and of responses that are no customer's.
abbrev pub of_customer : FillRow → Bool
of_customer f = of_response f && same_class Customer f.class

abbrev pub of_other : FillRow → Bool
of_other f = of_response f && same_class Other f.class

-- The price of a row.
abbrev pub row_price : Side → FillRow → ℤ
row_price side f = turned_price side f.price

-- Rows at a price, below it, and up to it.
abbrev pub priced_at : Side → ℤ → FillRow → Bool
priced_at side z f = same_price z (row_price side f)

abbrev pub priced_below : Side → ℤ → FillRow → Bool
priced_below side z f = int_lt (row_price side f) z

abbrev pub priced_up_to : Side → ℤ → FillRow → Bool
priced_up_to side z f = not (int_lt z (row_price side f))

-- The contracts that certain rows got at certain prices, and those that they asked for.
abbrev pub fill_of : (FillRow → Bool) → (FillRow → Bool) → List FillRow → ℕ
fill_of whose prices fs = filled_in (those (λ (f : FillRow). whose f && prices f) fs)

abbrev pub demand_of : (FillRow → Bool) → (FillRow → Bool) → List FillRow → ℕ
demand_of whose prices fs = size_in (those (λ (f : FillRow). whose f && prices f) fs)

-- Where a guarantee lets the contra trade: at a single stop; at an auto-match limit and beyond.
abbrev pub GuaranteeAllows : GuaranteeKind → ℤ → ℤ → Type 0
GuaranteeAllows SingleStop stop z = z ≡ stop
GuaranteeAllows AutoMatchLimit limit z = limit ≤ℤ z

-- The contra matched a price: it got as many contracts there as all responses together.
abbrev pub Matched : Side → ℤ → List FillRow → Type 0
Matched side z fs = fill_of of_contra (priced_at side z) fs ≡ fill_of of_response (priced_at side z) fs

-- Before the initiating price of an auto-match limit it matched a price at which no response has contracts left.
pub record MatchedAll (side : Side) (kind : GuaranteeKind) (initiating z : ℤ) (fs : List FillRow) : Type 0 where
  pub by_limit : kind ≡ AutoMatchLimit
  pub before_initiating : z <ℤ initiating
  pub as_many : Matched side z fs
  pub all_filled : fill_of of_response (priced_at side z) fs ≡ demand_of of_response (priced_at side z) fs

-- What it and the others got at a price is too little for a match: for all that the others asked for there, and once more
-- for all that customers and others did.
abbrev pub TooFewToMatch : Side → ℤ → List FillRow → Type 0
TooFewToMatch side z fs =
    fill_of of_contra (priced_at side z) fs + fill_of of_other (priced_at side z) fs
    < demand_of of_other (priced_at side z) fs + demand_of of_response (priced_at side z) fs

-- The order's side, the guarantee as stored, the initiating price, the contra's guaranteed share in contracts, and the rows.
pub record ContraLaws (side : Side) (guarantee : Guarantee) (initiating : ℤ) (guaranteed : ℕ) (rows : List FillRow) : Type 0 where
  -- From the guarantee on: the contra's rows are at the stop, or not below the auto-match limit.
  pub from_guarantee_on :
      AllByRecursion (λ f. of_contra f ≡ true → GuaranteeAllows guarantee.kind guarantee.price (row_price side f)) rows
  -- Nothing beyond the stop: under a single stop no row trades at a price above it.
  pub nothing_beyond_stop :
      guarantee.kind ≡ SingleStop → AllByRecursion (λ f. 0 < f.filled → row_price side f ≤ℤ guarantee.price) rows
  -- No more than its share while others want: where it trades, and a response at that price or a better one has contracts
  -- left, it got at most its guaranteed share up to that price.
  pub no_more_while_wanted :
      AllByRecursion (λ f. AllByRecursion (λ g. of_contra f ≡ true → of_response g ≡ true → 0 < g.left → row_price side g ≤ℤ row_price side f
      → fill_of of_contra (priced_up_to side (row_price side f)) rows ≤ guaranteed) rows) rows
  -- Its share before others: where a response of an other trades from the guarantee on, the contra got its guaranteed share
  -- up to that price, or, before the initiating price of an auto-match limit, matched all responses there.
  pub share_before_others :
      AllByRecursion (λ f. of_other f ≡ true → 0 < f.filled → guarantee.price ≤ℤ row_price side f
      → (guaranteed ≤ fill_of of_contra (priced_up_to side (row_price side f)) rows) ⊎ MatchedAll side guarantee.kind initiating (row_price side f) rows) rows
  -- Only while it lacks some: under an auto-match limit it trades before the initiating price only while it has less than
  -- its guaranteed share from better prices.
  pub only_while_lacking :
      guarantee.kind ≡ AutoMatchLimit → AllByRecursion (λ f. of_contra f ≡ true → row_price side f <ℤ initiating
      → fill_of of_contra (priced_below side (row_price side f)) rows < guaranteed) rows
  -- No more than a match: nor does it get more at such a price than all responses together, unless too little is left for
  -- a match.
  pub match_at_most :
      guarantee.kind ≡ AutoMatchLimit → AllByRecursion (λ f. of_contra f ≡ true → row_price side f <ℤ initiating
      → (fill_of of_contra (priced_at side (row_price side f)) rows ≤ fill_of of_response (priced_at side (row_price side f)) rows) ⊎ TooFewToMatch side (row_price side f) rows) rows
  -- A match while it lacks some: under an auto-match limit, where a response stands from the limit on and before the
  -- initiating price, and a row trades at a price beyond, the contra had its guaranteed share before, or matched.
  pub matches_while_lacking :
      guarantee.kind ≡ AutoMatchLimit → AllByRecursion (λ f. AllByRecursion (λ g. of_response f ≡ true → guarantee.price ≤ℤ row_price side f → row_price side f <ℤ initiating
      → 0 < g.filled → row_price side f <ℤ row_price side g
      → (guaranteed ≤ fill_of of_contra (priced_below side (row_price side f)) rows) ⊎ Matched side (row_price side f) rows) rows) rows
