-- A response by its member and own number, and by its index: what stands at the index that was found is the one that is
-- changed and removed.
use Rattle.std.proofs.Common.{◌≡◌, ℕ, zero, suc, ◌<◌, true, false, not, List, [], ◌∷◌, ◌++◌, length, get_or, take, drop, ℤ, is_some, Some, None, refl, ap, ◌∙◌, add-one, arith}
use Rattle.allocation.specs.AuctionInvariant.{own_free}
use Rattle.allocation.specs.Table.{is_of, index_of, change_at, without_index, own_response, own_changed, without_own}
use Rattle.allocation.specs.declared.response.Response.{Response}

module _ (member own_number : ℕ) where
  -- there is an index exactly if there is a response
  pub index_stands : (xs : List Response) → is_some (index_of member own_number xs) ≡ is_some (own_response member own_number xs)
  index_stands [] = refl
  index_stands (x ∷ xs) = grind (arith, index_stands xs)

  -- an own number is free exactly if no response has it
  pub free_stands : (xs : List Response) → not (is_some (own_response member own_number xs)) ≡ own_free member own_number xs
  free_stands [] = refl
  free_stands (x ∷ xs) = grind (arith, free_stands xs)

  -- and so if there is no index
  pub index_free : (xs : List Response) → not (is_some (index_of member own_number xs)) ≡ own_free member own_number xs
  index_free xs = ap not (index_stands xs) ∙ free_stands xs

  -- where there is no index, there is no response
  pub index_none : (xs : List Response) → index_of member own_number xs ≡ None → own_response member own_number xs ≡ None
  index_none [] h = refl
  index_none (x ∷ xs) h = grind (arith, index_none xs)

  -- where no response has it, nothing is changed
  pub none_changed : (size : ℕ) (price : ℤ) (arrival : ℕ) (xs : List Response) → is_some (own_response member own_number xs) ≡ false → own_changed member own_number size price arrival xs ≡ xs
  none_changed size price arrival [] h = refl
  none_changed size price arrival (x ∷ xs) h = grind (arith, none_changed size price arrival xs)

  -- and nothing is removed
  pub none_removed : (xs : List Response) → is_some (own_response member own_number xs) ≡ false → without_own member own_number xs ≡ xs
  none_removed [] h = refl
  none_removed (x ∷ xs) h = grind (arith, none_removed xs)

  -- the response at the index that was found is the one
  pub found_response : (d : Response) (xs : List Response) (i : ℕ) → index_of member own_number xs ≡ Some i → own_response member own_number xs ≡ Some (get_or xs i d)
  found_response d [] i h = grind arith
  found_response d (x ∷ xs) zero h = grind arith
  found_response d (x ∷ xs) (suc i) h = grind (arith, found_response d xs i)

  -- it is among those that stand, and is of this member with this own number
  pub found_within : (xs : List Response) (i : ℕ) → index_of member own_number xs ≡ Some i → i < length xs
  found_within [] i h = grind arith
  found_within (x ∷ xs) zero h = grind arith
  found_within (x ∷ xs) (suc i) h = grind (arith, found_within xs i)

  pub found_theirs : (d : Response) (xs : List Response) (i : ℕ) → index_of member own_number xs ≡ Some i → is_of member own_number (get_or xs i d) ≡ true
  found_theirs d [] i h = grind arith
  found_theirs d (x ∷ xs) zero h = grind arith
  found_theirs d (x ∷ xs) (suc i) h = grind (arith, found_theirs d xs i)

  -- to change the one is to change the response at the index that was found
  pub found_changed : (size : ℕ) (price : ℤ) (arrival : ℕ) (xs : List Response) (i : ℕ) → index_of member own_number xs ≡ Some i → own_changed member own_number size price arrival xs ≡ change_at i size price arrival xs
  found_changed size price arrival [] i h = grind arith
  found_changed size price arrival (x ∷ xs) zero h = grind arith
  found_changed size price arrival (x ∷ xs) (suc i) h = grind (arith, found_changed size price arrival xs i)

  found_less : (xs : List Response) (i : ℕ) → index_of member own_number xs ≡ Some i → without_own member own_number xs ≡ take i xs ++ drop (suc i) xs
  found_less [] i h = grind arith
  found_less (x ∷ xs) zero h = grind arith
  found_less (x ∷ xs) (suc i) h = grind (arith, found_less xs i)

  -- to remove the one is to remove the response at the index that was found
  pub found_without : (xs : List Response) (i : ℕ) → index_of member own_number xs ≡ Some i → without_own member own_number xs ≡ without_index i xs
  found_without xs i h = rw (add-one i) (found_less xs i h)
