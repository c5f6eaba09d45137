-- How k contracts are shared among responses of one class at one price, which stand in ranking order.
use Rattle.std.specs.Prelude.{ℕ, ◌+◌, ◌-◌, ◌*◌, ◌/◌, min, cond, List, [], ◌∷◌, map, nat_le}
use Rattle.allocation.specs.declared.response.Response.{Response}

-- The sizes of responses.
abbrev pub sizes : List Response → List ℕ
sizes xs = map (λ (x : Response). x.size) xs

-- Added up.
abbrev pub total : List ℕ → ℕ
total [] = 0
total (s ∷ ss) = s + total ss

-- The parts k × size / t rounded down, added up.
abbrev pub parts_total : ℕ → ℕ → List ℕ → ℕ
parts_total k t [] = 0
parts_total k t (s ∷ ss) = k * s / t + parts_total k t ss

-- To each k × size / t rounded down, and to the first `odd` of them one more.
abbrev pub deal : ℕ → ℕ → ℕ → List ℕ → List ℕ
deal k t odd [] = []
deal k t odd (s ∷ ss) = (k * s / t + min odd 1) ∷ deal k t (odd - 1) ss

-- All are filled if k is at least their total. Otherwise each gets k × size / total rounded down, and the odd contracts
-- go one each in ranking order.
abbrev pub shares : ℕ → List ℕ → List ℕ
shares k ss = cond (nat_le (total ss) k) ss (deal k (total ss) (k - parts_total k (total ss) ss) ss)
