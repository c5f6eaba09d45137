-- Counting accepted responses and changes: one more of a member adds one to the total, no member passes its 10,000, and a
-- new arrival number is one that no standing response has.
use Rattle.std.proofs.Common.{◌≡◌, ℕ, zero, suc, ◌+◌, ◌*◌, ◌<◌, ◌≤◌, true, not, eqb, leb, List, [], ◌∷◌, length, get_or, set, refl, le_of_suc-le-suc, not-suc-le-zero, arith}
use Rattle.std.proofs.lemmas.Bool.Decides.{nat_tests}
use Rattle.allocation.specs.declared.response.Response.{Response}
use Rattle.allocation.specs.AuctionInvariant.{arrival_free}
use Rattle.allocation.specs.Share.{total}
use Rattle.room.specs.Counts.{all_within, all_arrived}
use Rattle.room.proofs.Tests.{both_true, left_true, right_true}

pub total_set : (xs : List ℕ) (i : ℕ) → i < length xs → total (set xs i (get_or xs i 0 + 1)) ≡ total xs + 1
total_set [] i h = absurd (not-suc-le-zero h)
total_set (x ∷ xs) zero h = omega arith
total_set (x ∷ xs) (suc i) h = let rest = total_set xs i (le_of_suc-le-suc h) in omega arith

pub within_set : (most : ℕ) (xs : List ℕ) (i v : ℕ) → all_within most xs ≡ true → leb v most ≡ true → all_within most (set xs i v) ≡ true
within_set most [] i v h k = refl
within_set most (x ∷ xs) zero v h k = both_true (leb v most) (all_within most xs) k (right_true (leb x most) (all_within most xs) h)
within_set most (x ∷ xs) (suc i) v h k = both_true (leb x most) (all_within most (set xs i v)) (left_true (leb x most) (all_within most xs) h) (within_set most xs i v (right_true (leb x most) (all_within most xs) h) k)

pub total_most : (xs : List ℕ) → all_within 10000 xs ≡ true → total xs ≤ 10000 * length xs
total_most [] h = omega arith
total_most (x ∷ xs) h =
    let here : leb x 10000 ≡ true = left_true (leb x 10000) (all_within 10000 xs) h in
    let low : x ≤ 10000 = grind (arith, nat_tests) in
    let rest = total_most xs (right_true (leb x 10000) (all_within 10000 xs) h) in
    omega arith

-- one more than the last arrival number is free
pub next_is_free : (last : ℕ) (xs : List Response) → all_arrived last xs ≡ true → arrival_free (last + 1) xs ≡ true
next_is_free last [] h = refl
next_is_free last (x ∷ xs) h =
    let here : leb x.arrival last ≡ true = left_true (leb x.arrival last) (all_arrived last xs) h in
    let apart : not (eqb (last + 1) x.arrival) ≡ true = grind (arith, nat_tests) in
    both_true (not (eqb (last + 1) x.arrival)) _ apart (next_is_free last xs (right_true (leb x.arrival last) (all_arrived last xs) h))

-- all have arrived by the next arrival
pub arrived_next : (last : ℕ) (xs : List Response) → all_arrived last xs ≡ true → all_arrived (last + 1) xs ≡ true
arrived_next last [] h = refl
arrived_next last (x ∷ xs) h =
    let here : leb x.arrival last ≡ true = left_true (leb x.arrival last) (all_arrived last xs) h in
    let later : leb x.arrival (last + 1) ≡ true = grind (arith, nat_tests) in
    both_true (leb x.arrival (last + 1)) _ later (arrived_next last xs (right_true (leb x.arrival last) (all_arrived last xs) h))
