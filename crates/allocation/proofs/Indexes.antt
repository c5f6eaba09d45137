-- Indexes in a table: the search for a response, and a change at one index.
use Rattle.std.proofs.Common.{◌≡◌, ℕ, zero, suc, ◌<◌, Bool, cond, ◌&&◌, List, [], ◌∷◌, length, get_or, set, ℤ, Some, refl, ap, arith}
use Rattle.std.proofs.lemmas.Bool.Decides.{nat_tests}
use Rattle.std.specs.List.{position, find, list_all}
use Rattle.allocation.specs.AuctionInvariant.{each}
use Rattle.allocation.specs.Table.{is_of, index_of, own_response, with_terms, change_at}
use Rattle.allocation.specs.declared.response.Response.{Response}

-- the index of a response is the first position of a row of this member with this own number
pub position_is : (member own_number : ℕ) (xs : List Response) → position (is_of member own_number) xs ≡ index_of member own_number xs
position_is member own_number [] = refl
position_is member own_number (x ∷ xs) = let rest = position_is member own_number xs in grind (arith, nat_tests)

-- the response of this member with this own number is the first one found
pub own_is : (member own_number : ℕ) (xs : List Response) → find (is_of member own_number) xs ≡ own_response member own_number xs
own_is member own_number [] = refl
own_is member own_number (x ∷ xs) = ap (cond (is_of member own_number x) (Some x)) (own_is member own_number xs)

-- what holds of each holds of all
pub all_is : {X : Type 0} (p : X → Bool) (xs : List X) → list_all p xs ≡ each p xs
all_is p [] = refl
all_is p (x ∷ xs) = ap (λ b. p x && b) (all_is p xs)

-- the row at i is written over with what it is when changed
pub rewritten_is : (i size : ℕ) (price : ℤ) (arrival : ℕ) (xs : List Response) (d y : Response) → i < length xs → y ≡ with_terms size price arrival (get_or xs i d) → set xs i y ≡ change_at i size price arrival xs
rewritten_is i size price arrival [] d y h e = grind arith
rewritten_is zero size price arrival (x ∷ xs) d y h e = grind arith
rewritten_is (suc i) size price arrival (x ∷ xs) d y h e = grind (arith, rewritten_is i size price arrival xs d y)
