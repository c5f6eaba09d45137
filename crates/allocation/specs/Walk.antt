-- Words for the code that walks the levels of arranged responses. No rule is stated here, and no public contract cites it.
use Rattle.std.specs.Prelude.{ℕ, zero, suc, ◌+◌, ◌-◌, min, cond, List, [], ◌++◌, length, drop, ℤ, Some, None, Option, unwrap_or}
use Rattle.std.specs.Option.{option_map}
use Rattle.market.specs.declared.side.Side.{Side}
use Rattle.allocation.specs.declared.fill.FillRow.{FillRow}
use Rattle.allocation.specs.declared.order.ContraTerms.{ContraTerms}
use Rattle.allocation.specs.declared.response.Response.{Response}
use Rattle.allocation.specs.declared.split.Split.{Split}
use Rattle.allocation.specs.declared.walk.Walk.{Walk}
use Rattle.allocation.specs.FillLaws.{same_price}
use Rattle.allocation.specs.Fill.{level_rows, split_at}
use Rattle.allocation.specs.Levels.{Level, contra_level}
use Rattle.allocation.specs.LevelSteps.{next_price, front_level}
use Rattle.allocation.specs.Split.{total_taken}

-- The contra's own price is still to come, unless this price is it.
abbrev pub still_to_come : Option ℤ → ℤ → Option ℤ
still_to_come None price = None
still_to_come (Some coming) price = cond (same_price price coming) None (Some coming)

-- The responses behind a level.
abbrev pub behind_level : Level → List Response → List Response
behind_level l xs = drop (length l.customers + length l.others) xs

-- The rows of at most so many levels of arranged responses, with r contracts left and m the contra's so far.
abbrev pub walk_rows : ℕ → Side → ContraTerms → Option ℤ → List Response → ℕ → ℕ → List FillRow
walk_rows zero side t coming xs r m = []
walk_rows (suc turns) side t coming xs r m =
    let rows : Level → List FillRow = λ l. level_rows side l (split_at t l r m) ++ walk_rows turns side t (still_to_come coming l.price) (behind_level l xs) (r - total_taken (split_at t l r m)) (m + (split_at t l r m).contra) in
    unwrap_or (option_map (λ price. rows (front_level price xs)) (next_price coming xs)) []

-- The level of a price that a walk is at.
abbrev pub walk_level : ℤ → Walk → List Response → Level
walk_level price w xs = front_level price (drop w.next xs)

-- How that level is split.
abbrev pub walk_split : ContraTerms → ℤ → Walk → List Response → Split
walk_split t price w xs = split_at t (walk_level price w xs) w.progress.left w.progress.so_far

-- The walk one level on.
abbrev pub walk_on : Walk → Level → Split → Walk
walk_on w l s = record {
  contra_price = still_to_come w.contra_price l.price;
  next = w.next + (length l.customers + length l.others);
  row = w.row + (length l.customers + (min s.contra 1 + length l.others));
  progress = record { left = w.progress.left - total_taken s; so_far = w.progress.so_far + s.contra };
}

-- The walk past the level of a price, and the rows that it writes there.
abbrev pub walk_past : ContraTerms → ℤ → Walk → List Response → Walk
walk_past t price w xs = walk_on w (walk_level price w xs) (walk_split t price w xs)

abbrev pub rows_past : Side → ContraTerms → ℤ → Walk → List Response → List FillRow
rows_past side t price w xs = level_rows side (walk_level price w xs) (walk_split t price w xs)

-- The rows of all levels of arranged responses, for an order of this size.
abbrev pub all_rows : Side → ContraTerms → List Response → ℕ → List FillRow
all_rows side t xs size = walk_rows (length xs + 1) side t (Some (contra_level t.guarantee.kind t)) xs size 0
