-- What holds of every auction, so that its contracts can be shared out: prices are turned.
use Rattle.std.specs.Prelude.{ℕ, Bool, true, not, ◌&&◌, List, [], ◌∷◌, ℤ, Some, ◌==◌, int_le, nat_le}
use Rattle.market.specs.Limits.{showable}
use Rattle.allocation.specs.Table.{is_of}
use Rattle.allocation.specs.declared.order.Guarantee.{Guarantee}
use Rattle.allocation.specs.declared.order.GuaranteeKind.{GuaranteeKind}
use Rattle.allocation.specs.declared.order.GuaranteeKind.TheVariants.{SingleStop, AutoMatchLimit}
use Rattle.allocation.specs.declared.order.PairedOrder.{PairedOrder}
use Rattle.allocation.specs.declared.response.Response.{Response}

-- From a lower to a higher number, both included.
abbrev pub from_to : ℕ → ℕ → ℕ → Bool
from_to low high n = nat_le low n && nat_le n high

-- A single stop is not below the floor. An auto-match limit price may be: the floor may have risen since it was stored.
abbrev pub stop_ok : GuaranteeKind → ℤ → ℤ → Bool
stop_ok SingleStop floor price = int_le floor price
stop_ok AutoMatchLimit floor price = true

-- The range runs from the floor to the initiating price.
abbrev pub range_ok : ℤ → ℤ → Bool
range_ok floor initiating = showable (Some floor) && (showable (Some initiating) && int_le floor initiating)

-- The guarantee is not above the initiating price.
abbrev pub guarantee_ok : Guarantee → ℤ → ℤ → Bool
guarantee_ok g floor initiating = int_le g.price initiating && stop_ok g.kind floor g.price

-- The order's size is 1 to 100,000.
abbrev pub terms_ok : PairedOrder → ℤ → ℤ → Bool
terms_ok order floor initiating =
    from_to 1 100000 order.size && (range_ok floor initiating && guarantee_ok order.guarantee floor initiating)

-- A response's size is 1 up to the order's, and its price is in the range.
abbrev pub stored_ok : ℕ → ℤ → ℤ → ℕ → ℤ → Bool
stored_ok most floor initiating size price = from_to 1 most size && (int_le floor price && int_le price initiating)

-- A response that may stand: members are 1 to 16, own numbers 1 to 4.
abbrev pub response_ok : ℕ → ℤ → ℤ → Response → Bool
response_ok most floor initiating x =
    from_to 1 16 x.member && (from_to 1 4 x.own_number && stored_ok most floor initiating x.size x.price)

-- It holds of each.
abbrev pub each : {X : Type 0} → (X → Bool) → List X → Bool
each p [] = true
each p (x ∷ xs) = p x && each p xs

-- No response has this arrival number.
abbrev pub arrival_free : ℕ → List Response → Bool
arrival_free n xs = each (λ (y : Response). not (n == y.arrival)) xs

-- No two responses have the same arrival number.
abbrev pub arrivals_apart : List Response → Bool
arrivals_apart [] = true
arrivals_apart (x ∷ xs) = arrival_free x.arrival xs && arrivals_apart xs

-- No response has this member and own number.
abbrev pub own_free : ℕ → ℕ → List Response → Bool
own_free member own_number xs = each (λ (y : Response). not (is_of member own_number y)) xs

-- No two responses have the same member and own number.
abbrev pub owns_apart : List Response → Bool
owns_apart [] = true
owns_apart (x ∷ xs) = own_free x.member x.own_number xs && owns_apart xs
