-- There is a slot for every response that may stand: members are 1 to 16 and own numbers 1 to 4, and no two responses have
-- the same member and own number, so no more than 64 stand. Each member and own number has its own number below 64, and
-- different numbers below 64 are at most 64.
use Rattle.std.proofs.Common.{◌≡◌, ℕ, ◌+◌, ◌-◌, ◌*◌, ◌<◌, true, false, not, eqb, List, [], ◌∷◌, map, length, ℤ, arith}
use Rattle.std.proofs.lemmas.Bool.{and_parts, and_from}
use Rattle.std.proofs.lemmas.Bool.Decides.{nat_tests}
use Rattle.std.proofs.lemmas.List.{length-map}
use Rattle.std.proofs.lemmas.Map.Steps.{length-le_from_distinct_below}
use Rattle.std.specs.List.{AllByRecursion, IsDistinct, list_any}
use Rattle.allocation.specs.AuctionInvariant.{response_ok, each, own_free, owns_apart}
use Rattle.allocation.specs.Table.{is_of}
use Rattle.allocation.specs.declared.response.Response.{Response}

-- the number of a response's member and own number, from 0
abbrev number : Response → ℕ
number x = 4 * (x.member - 1) + (x.own_number - 1)

module _ (most : ℕ) (floor initiating : ℤ) where
  number_below : (x : Response) → response_ok most floor initiating x ≡ true → number x < 64
  number_below x h = grind (arith, nat_tests)

  -- the number tells the member and the own number
  number_tells : (x y : Response) → response_ok most floor initiating x ≡ true → response_ok most floor initiating y ≡ true → not (is_of x.member x.own_number y) ≡ true → eqb (number x) (number y) ≡ false
  number_tells x y h k apart = grind (arith, nat_tests)

  numbers_below : (xs : List Response) → each (response_ok most floor initiating) xs ≡ true → (q : ℕ) → list_any (eqb q) (map number xs) ≡ true → q < 64
  numbers_below [] h q e = grind arith
  numbers_below (x ∷ xs) h q e =
      let ok = and_parts (response_ok most floor initiating x) _ h in
      let here = number_below x ok.0 in
      let rest = numbers_below xs ok.1 q in
      grind (arith, nat_tests)

  other_numbers : (x : Response) (xs : List Response) → response_ok most floor initiating x ≡ true → each (response_ok most floor initiating) xs ≡ true → own_free x.member x.own_number xs ≡ true → AllByRecursion (λ n. eqb (number x) n ≡ false) (map number xs)
  other_numbers x [] h k free = tt
  other_numbers x (y ∷ ys) h k free =
      let ok = and_parts (response_ok most floor initiating y) _ k in
      let other = and_parts (not (is_of x.member x.own_number y)) _ free in
      (number_tells x y h ok.0 other.0, other_numbers x ys h ok.1 other.1)

  numbers_differ : (xs : List Response) → each (response_ok most floor initiating) xs ≡ true → owns_apart xs ≡ true → IsDistinct eqb (map number xs)
  unfolding IsDistinct
  numbers_differ [] h k = tt
  numbers_differ (x ∷ xs) h k =
      let ok = and_parts (response_ok most floor initiating x) _ h in
      let apart = and_parts (own_free x.member x.own_number xs) _ k in
      (other_numbers x xs ok.0 ok.1 apart.0, numbers_differ xs ok.1 apart.1)

  -- one more that may stand and has a free own number finds a slot
  pub slot_left : (xs : List Response) (x : Response) → each (response_ok most floor initiating) xs ≡ true → owns_apart xs ≡ true → response_ok most floor initiating x ≡ true → own_free x.member x.own_number xs ≡ true → length xs < 64
  slot_left xs x all apart ok free =
      let stand = and_from (response_ok most floor initiating x) _ ok all in
      let differ = numbers_differ (x ∷ xs) stand (and_from (own_free x.member x.own_number xs) _ free apart) in
      omega (arith, length-map xs number, length-le_from_distinct_below (map number (x ∷ xs)) 64 differ (numbers_below (x ∷ xs) stand))
