-- Words for the inner steps of the code that walks the levels. No rule is stated here, and no public contract cites it.
use Rattle.std.specs.Prelude.{◌≡◌, ℕ, suc, ◌≤◌, Bool, true, cond, ◌&&◌, List, [], ◌∷◌, length, take, drop, ℤ, Some, None, Option}
use Rattle.std.specs.Int.{int_min}
use Rattle.std.specs.List.{AllByRecursion}
use Rattle.market.specs.Limits.{showable}
use Rattle.allocation.specs.declared.response.Class.{Class}
use Rattle.allocation.specs.declared.response.Class.TheVariants.{Customer, Other}
use Rattle.allocation.specs.declared.response.Response.{Response}
use Rattle.allocation.specs.FillLaws.{same_price, same_class}
use Rattle.allocation.specs.Levels.{Level}

-- A response that stands at this price in this class.
abbrev pub stands_at : ℤ → Class → Response → Bool
stands_at price c x = same_class c x.class && same_price price x.price

-- How many at the front stand at this price in this class.
abbrev pub leading : ℤ → Class → List Response → ℕ
leading price c [] = 0
leading price c (x ∷ xs) = cond (stands_at price c x) (suc (leading price c xs)) 0

-- The lowest price that is still to come, if there is any: that of the first response, and the contra's own while it is.
abbrev pub next_price : Option ℤ → List Response → Option ℤ
next_price coming [] = coming
next_price (Some coming) (x ∷ xs) = Some (int_min x.price coming)
next_price None (x ∷ xs) = Some x.price

-- The level of this price at the front of arranged responses, of so many customers and then so many others.
abbrev pub counted_level : ℤ → ℕ → ℕ → List Response → Level
counted_level price c o xs = record { price = price; customers = take c xs; others = take o (drop c xs) }

-- The level of this price at the front of arranged responses.
abbrev pub front_level : ℤ → List Response → Level
front_level price xs =
    let customers = leading price Customer xs in
    counted_level price customers (leading price Other (drop customers xs)) xs

-- Sizes are 1 to 100,000, and prices small enough to be turned.
abbrev pub Sized : Response → Type 0
Sized x = (1 ≤ x.size) × (x.size ≤ 100000) × (showable (Some x.price) ≡ true)

-- At most 64 of them, each sized.
abbrev pub Sound : List Response → Type 0
Sound xs = (length xs ≤ 64) × AllByRecursion Sized xs
