-- Finding a claim in a purse: the first of its numbers, and the others without it; and putting one back.
use Rattle.std.proofs.Common.{◌≡◌, ℕ, zero, suc, ◌<◌, ◌≤◌, Bool, true, false, cond, not, ◌||◌, eqb, List, [], ◌∷◌, map, length, get_or, Some, None, sym, refl, ap, ◌∙◌, le_of_suc-le-suc, not-suc-le-zero, nat_lt, arith}
use Rattle.std.proofs.lemmas.Bool.{and_parts, eqb-true, not-true, or_parts}
use Rattle.std.specs.List.{insert, position, position_or_len, remove}
use Rattle.std.proofs.lemmas.Bool.Decides.{nat_tests}
use Rattle.std.proofs.lemmas.List.Quantifiers.{position-Some}
use Rattle.std.proofs.lemmas.List.Sums.{prefix_len_passes}
use Rattle.room.specs.declared.answers.ClaimNumbers.{ClaimNumbers}
use Rattle.session.specs.Purse.{same_claim, holds, without_claim}

-- claims of the same numbers are equal as numbers
pub same_is : (a b : ClaimNumbers) → same_claim a b ≡ true → a ≡ b
same_is a b h =
    let both = and_parts (eqb a.room b.room) (eqb a.auction b.auction) h in
    let room = eqb-true a.room b.room both.0 in
    let auction = eqb-true a.auction b.auction both.1 in
    λ i. record { room = room i; auction = auction i }

pub without_none : (c : ClaimNumbers) (xs : List ClaimNumbers) → holds c xs ≡ false → without_claim c xs ≡ xs
without_none c [] h = refl
without_none c (x ∷ xs) h =
    let neither = or_parts (same_claim x c) (holds c xs) h in
    ap (λ (b : Bool). cond b xs (x ∷ without_claim c xs)) neither.0 ∙ ap (λ l. x ∷ l) (without_none c xs neither.1)

module _ {X : Type 0} (f : X → ClaimNumbers) (c : ClaimNumbers) where
  abbrev is_it : X → Bool
  is_it x = same_claim (f x) c

  -- no claim of these numbers
  none_held : (xs : List X) (d : X) → ((k : ℕ) → k < length xs → is_it (get_or xs k d) ≡ false) → holds c (map f xs) ≡ false
  none_held [] d h = refl
  none_held (x ∷ xs) d h = ap (λ (b : Bool). b || holds c (map f xs)) (h 0 (omega arith)) ∙ none_held xs d (λ k l. h (suc k) (omega arith))

  -- the first of these numbers
  first_held : (xs : List X) (i : ℕ) (d : X) → i < length xs → is_it (get_or xs i d) ≡ true → ((k : ℕ) → k < i → is_it (get_or xs k d) ≡ false)
      → (holds c (map f xs) ≡ true) × (map f (remove xs i) ≡ without_claim c (map f xs)) × ((e : X) → f (get_or xs i e) ≡ c)
  first_held [] i d l k h = absurd (not-suc-le-zero l)
  first_held (x ∷ xs) zero d l k h =
      (ap (λ (b : Bool). b || holds c (map f xs)) k, sym (ap (λ (b : Bool). cond b (map f xs) (f x ∷ without_claim c (map f xs))) k), λ e. same_is (f x) c k)
  first_held (x ∷ xs) (suc i) d l k h =
      let here = h 0 (omega arith) in
      let rest = first_held xs i d (le_of_suc-le-suc l) k (λ j m. h (suc j) (omega arith)) in
      (ap (λ (b : Bool). b || holds c (map f xs)) here ∙ rest.0, ap (λ l. f x ∷ l) rest.1 ∙ sym (ap (λ (b : Bool). cond b (map f xs) (f x ∷ without_claim c (map f xs))) here), rest.2)

  beyond : (a b : ℕ) → cond (nat_lt a b) (Some a) None ≡ None → b ≤ a
  beyond a b h = grind (arith, nat_tests)

  none_at : (xs : List X) → position is_it xs ≡ None → holds c (map f xs) ≡ false
  none_at [] h = refl
  none_at (x ∷ xs) h =
      let long = beyond (position_or_len is_it (x ∷ xs)) (length (x ∷ xs)) h in
      none_held (x ∷ xs) x (λ k l. not-true (is_it (get_or (x ∷ xs) k x)) (prefix_len_passes (λ y. not (is_it y)) (x ∷ xs) k x (omega arith)))

  -- what is taken out of a purse of these numbers, and what is left
  pub taken : (xs : List X) (purse : List ClaimNumbers) (i : ℕ) (x : X) → map f xs ≡ purse → Some i ≡ position is_it xs → x ≡ get_or xs i x
      → (Some (f x) ≡ cond (holds c purse) (Some c) None) × (map f (remove xs i) ≡ without_claim c purse)
  taken xs purse i x e h k =
      let at = position-Some is_it xs i x (sym h) in
      let first = first_held xs i x at.0 at.1 at.2 in
      let held : holds c purse ≡ true = ap (holds c) (sym e) ∙ first.0 in
      (ap (λ y. Some (f y)) k ∙ ap Some (first.2 x) ∙ sym (ap (λ (b : Bool). cond b (Some c) None) held), first.1 ∙ ap (without_claim c) e)

  pub none_taken : (xs : List X) (purse : List ClaimNumbers) → map f xs ≡ purse → None ≡ position is_it xs
      → (None ≡ cond (holds c purse) (Some c) None) × (purse ≡ without_claim c purse)
  none_taken xs purse e h =
      let held : holds c purse ≡ false = ap (holds c) (sym e) ∙ none_at xs (sym h) in
      (sym (ap (λ (b : Bool). cond b (Some c) None) held), sym (without_none c purse held))

-- Putting one back.
module _ {X Y : Type 0} (f : X → Y) where
  pub map_insert : (xs : List X) (i : ℕ) (x : X) → map f (insert xs i x) ≡ insert (map f xs) i (f x)
  map_insert [] zero x = refl
  map_insert [] (suc i) x = refl
  map_insert (y ∷ ys) zero x = refl
  map_insert (y ∷ ys) (suc i) x = ap (λ l. f y ∷ l) (map_insert ys i x)

  -- what was taken out and put back is there as before
  pub put_back : (xs : List X) (i : ℕ) (x : X) → i < length xs → x ≡ get_or xs i x → (i ≤ length (map f (remove xs i))) × (insert (map f (remove xs i)) i (f x) ≡ map f xs)
  put_back [] i x l e = absurd (not-suc-le-zero l)
  put_back (y ∷ ys) zero x l e = (omega arith, ap (λ z. f z ∷ map f ys) e)
  put_back (y ∷ ys) (suc i) x l e = let rest = put_back ys i x (le_of_suc-le-suc l) e in let within = rest.0 in (omega arith, ap (λ l. f y ∷ l) rest.1)
