-- What a change of the table keeps: what holds of each response, and arrival numbers that differ.
use Rattle.std.proofs.Common.{◌≡◌, ℕ, zero, suc, ◌+◌, Bool, true, not, ◌&&◌, eqb, List, [], ◌∷◌, ◌++◌, take, drop, ℤ, add-one, arith}
use Rattle.std.proofs.lemmas.Bool.{and_parts}
use Rattle.std.proofs.lemmas.Bool.Decides.{nat_tests}
use Rattle.allocation.specs.AuctionInvariant.{stored_ok, response_ok, each, arrival_free, arrivals_apart}
use Rattle.allocation.specs.Table.{with_terms, change_at, without_index}
use Rattle.allocation.specs.declared.response.Response.{Response}

pub both_left : (a b : Bool) → (a && b) ≡ true → a ≡ true
both_left a b h = (and_parts a b h).0

pub both_right : (a b : Bool) → (a && b) ≡ true → b ≡ true
both_right a b h = (and_parts a b h).1

pub each_push : {X : Type 0} (p : X → Bool) (xs : List X) (x : X) → each p xs ≡ true → p x ≡ true → each p (xs ++ x ∷ []) ≡ true
each_push p [] x h k = grind arith
each_push p (y ∷ ys) x h k = grind (arith, each_push p ys x)

pub apart_push : (xs : List Response) (x : Response) → arrivals_apart xs ≡ true → arrival_free x.arrival xs ≡ true → arrivals_apart (xs ++ x ∷ []) ≡ true
apart_push [] x h k = grind arith
apart_push (y ∷ ys) x h k =
    grind (arith, nat_tests, apart_push ys x, each_push (λ (z : Response). not (eqb y.arrival z.arrival)) ys x)

-- what each keeps when it is changed holds of each when one is changed
pub each_changed : (p : Response → Bool) (i size : ℕ) (price : ℤ) (arrival : ℕ) (xs : List Response) → each p xs ≡ true → ((x : Response) → p x ≡ true → p (with_terms size price arrival x) ≡ true) → each p (change_at i size price arrival xs) ≡ true
each_changed p i size price arrival [] h k = grind arith
each_changed p zero size price arrival (x ∷ xs) h k = grind (arith, k x)
each_changed p (suc i) size price arrival (x ∷ xs) h k = let more = each_changed p i size price arrival xs in grind (arith, k)

-- a response that stands may stand with another size and price
changed_ok : (most : ℕ) (floor initiating : ℤ) (size : ℕ) (price : ℤ) (arrival : ℕ) (x : Response) → stored_ok most floor initiating size price ≡ true → response_ok most floor initiating x ≡ true → response_ok most floor initiating (with_terms size price arrival x) ≡ true
changed_ok most floor initiating size price arrival x k h = grind arith

pub each_rewritten : (most : ℕ) (floor initiating : ℤ) (i size : ℕ) (price : ℤ) (arrival : ℕ) (xs : List Response) → each (response_ok most floor initiating) xs ≡ true → stored_ok most floor initiating size price ≡ true → each (response_ok most floor initiating) (change_at i size price arrival xs) ≡ true
each_rewritten most floor initiating i size price arrival xs h k =
    each_changed (response_ok most floor initiating) i size price arrival xs h (λ (x : Response). changed_ok most floor initiating size price arrival x k)

pub apart_rewritten : (i size : ℕ) (price : ℤ) (arrival : ℕ) (xs : List Response) → arrivals_apart xs ≡ true → arrival_free arrival xs ≡ true → arrivals_apart (change_at i size price arrival xs) ≡ true
apart_rewritten i size price arrival [] h k = grind arith
apart_rewritten zero size price arrival (x ∷ xs) h k = grind arith
apart_rewritten (suc i) size price arrival (x ∷ xs) h k =
    let free = each_changed (λ (y : Response). not (eqb x.arrival y.arrival)) i size price arrival xs in
    grind (arith, nat_tests, free, apart_rewritten i size price arrival xs)

pub each_less : {X : Type 0} (p : X → Bool) (i : ℕ) (xs : List X) → each p xs ≡ true → each p (take i xs ++ drop (suc i) xs) ≡ true
each_less p zero [] h = grind arith
each_less p (suc i) [] h = grind arith
each_less p zero (x ∷ xs) h = grind arith
each_less p (suc i) (x ∷ xs) h = grind (arith, each_less p i xs)

pub each_without : {X : Type 0} (p : X → Bool) (i : ℕ) (xs : List X) → each p xs ≡ true → each p (take i xs ++ drop (i + 1) xs) ≡ true
each_without p i xs h = rw (add-one i) (each_less p i xs h)

apart_less : (i : ℕ) (xs : List Response) → arrivals_apart xs ≡ true → arrivals_apart (take i xs ++ drop (suc i) xs) ≡ true
apart_less zero [] h = grind arith
apart_less (suc i) [] h = grind arith
apart_less zero (x ∷ xs) h = grind arith
apart_less (suc i) (x ∷ xs) h = grind (arith, each_less (λ (y : Response). not (eqb x.arrival y.arrival)) i xs, apart_less i xs)

pub apart_without : (i : ℕ) (xs : List Response) → arrivals_apart xs ≡ true → arrivals_apart (without_index i xs) ≡ true
apart_without i xs h = rw (add-one i) (apart_less i xs h)
