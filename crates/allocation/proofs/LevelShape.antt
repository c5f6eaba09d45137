-- The shape that levels have: each holds responses of its own price, customers apart from others; prices ascend.
use Rattle.std.proofs.Common.{◌≡◌, ◌⊎◌, List, [], ◌∷◌, ℤ, ◌<ℤ◌}
use Rattle.std.specs.List.{AllByRecursion}
use Rattle.allocation.specs.declared.response.Class.{Class}
use Rattle.allocation.specs.declared.response.Class.TheVariants.{Customer, Other}
use Rattle.allocation.specs.declared.response.Response.{Response}
use Rattle.allocation.specs.Levels.{Level}

-- x stands at this price in this class
abbrev pub At : ℤ → Class → Response → Type 0
At price c x = (x.price ≡ price) × (x.class ≡ c)

pub record Holds (l : Level) : Type 0 where
  pub customers_here : AllByRecursion (At l.price Customer) l.customers
  pub others_here : AllByRecursion (At l.price Other) l.others

-- each level's price is below all that follow
abbrev pub Ascending : List Level → Type 0
Ascending [] = Unit {0}
Ascending (l ∷ ls) = AllByRecursion (λ (k : Level). l.price <ℤ k.price) ls × Ascending ls

-- one of the levels has this price
abbrev pub Among : ℤ → List Level → Type 0
Among price [] = ⊥
Among price (l ∷ ls) = (l.price ≡ price) ⊎ Among price ls
