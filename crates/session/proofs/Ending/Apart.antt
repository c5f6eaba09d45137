-- The responses that stand in an auction differ by member and own number, and by arrival; storing, changing and withdrawing
-- one keeps that.
use Rattle.std.proofs.Common.{◌≡◌, ℕ, ◌+◌, Bool, true, false, cond, not, eqb, leb, List, [], ◌∷◌, ℤ, is_some, sym, refl, ap, ◌∙◌, arith}
use Rattle.std.proofs.lemmas.Bool.Decides.{nat_tests}
use Rattle.allocation.proofs.AuctionKept.{apart_push, each_push}
use Rattle.allocation.proofs.OwnResponses.{free_stands}
use Rattle.allocation.proofs.OwnsKept.{owns_push}
use Rattle.allocation.specs.declared.response.Response.{Response}
use Rattle.allocation.specs.AuctionInvariant.{arrival_free, arrivals_apart, own_free, owns_apart}
use Rattle.allocation.specs.Table.{is_of, with_terms, own_response, own_changed, without_own}
use Rattle.room.specs.declared.requests.ChangeRequest.{ChangeRequest}
use Rattle.room.specs.declared.requests.ResponseRequest.{ResponseRequest}
use Rattle.room.specs.declared.requests.WithdrawRequest.{WithdrawRequest}
use Rattle.room.specs.Counts.{all_arrived}
use Rattle.room.specs.Responses.{as_stored, stored_price, stored_size, with_response, with_change, with_withdrawal}
use Rattle.room.specs.State.{OpenValues}
use Rattle.room.proofs.Counting.{next_is_free, arrived_next}
use Rattle.room.proofs.Sound.{each_rewritten, each_without}
use Rattle.room.proofs.Tests.{both_true, left_true, right_true}

pub record Apart (a : OpenValues) : Type 0 where
  -- arrivals were given before
  pub arrived : all_arrived a.arrivals a.values.stood ≡ true
  pub arrivals : arrivals_apart a.values.stood ≡ true
  pub owns : owns_apart a.values.stood ≡ true

-- one with another size, price and arrival
module _ (m o size : ℕ) (z : ℤ) (n : ℕ) where
  arrivals_at : (b : Bool) (x : Response) (xs ys : List Response) → arrival_free n (x ∷ xs) ≡ true → arrivals_apart xs ≡ true → arrival_free x.arrival ys ≡ true → arrivals_apart ys ≡ true
      → arrivals_apart (cond b (with_terms size z n x ∷ xs) (x ∷ ys)) ≡ true
  arrivals_at true x xs ys free h g k = both_true (arrival_free n xs) (arrivals_apart xs) (right_true (not (eqb n x.arrival)) (arrival_free n xs) free) h
  arrivals_at false x xs ys free h g k = both_true (arrival_free x.arrival ys) (arrivals_apart ys) g k

  arrivals_changed : (xs : List Response) → arrival_free n xs ≡ true → arrivals_apart xs ≡ true → arrivals_apart (own_changed m o size z n xs) ≡ true
  arrivals_changed [] free h = refl
  arrivals_changed (x ∷ xs) free h =
      let other : not (eqb x.arrival n) ≡ true = let apart = left_true (not (eqb n x.arrival)) (arrival_free n xs) free in grind (arith, nat_tests) in
      let rest = right_true (arrival_free x.arrival xs) (arrivals_apart xs) h in
      arrivals_at (is_of m o x) x xs (own_changed m o size z n xs) free rest
      (each_rewritten (λ (y : Response). not (eqb x.arrival y.arrival)) m o size z n xs (λ y e. other) (left_true (arrival_free x.arrival xs) (arrivals_apart xs) h))
      (arrivals_changed xs (right_true (not (eqb n x.arrival)) (arrival_free n xs) free) rest)

  owns_at : (b : Bool) (x : Response) (xs ys : List Response) → own_free x.member x.own_number xs ≡ true → owns_apart xs ≡ true → own_free x.member x.own_number ys ≡ true → owns_apart ys ≡ true
      → owns_apart (cond b (with_terms size z n x ∷ xs) (x ∷ ys)) ≡ true
  owns_at true x xs ys free h g k = both_true (own_free x.member x.own_number xs) (owns_apart xs) free h
  owns_at false x xs ys free h g k = both_true (own_free x.member x.own_number ys) (owns_apart ys) g k

  owns_changed : (xs : List Response) → owns_apart xs ≡ true → owns_apart (own_changed m o size z n xs) ≡ true
  owns_changed [] h = refl
  owns_changed (x ∷ xs) h =
      let free = left_true (own_free x.member x.own_number xs) (owns_apart xs) h in
      let rest = right_true (own_free x.member x.own_number xs) (owns_apart xs) h in
      owns_at (is_of m o x) x xs (own_changed m o size z n xs) free rest
      (each_rewritten (λ (y : Response). not (is_of x.member x.own_number y)) m o size z n xs (λ y e. e) free)
      (owns_changed xs rest)

-- without one
module _ (m o : ℕ) where
  arrivals_less : (b : Bool) (x : Response) (xs ys : List Response) → arrivals_apart xs ≡ true → arrival_free x.arrival ys ≡ true → arrivals_apart ys ≡ true → arrivals_apart (cond b xs (x ∷ ys)) ≡ true
  arrivals_less true x xs ys h g k = h
  arrivals_less false x xs ys h g k = both_true (arrival_free x.arrival ys) (arrivals_apart ys) g k

  arrivals_without : (xs : List Response) → arrivals_apart xs ≡ true → arrivals_apart (without_own m o xs) ≡ true
  arrivals_without [] h = refl
  arrivals_without (x ∷ xs) h =
      let rest = right_true (arrival_free x.arrival xs) (arrivals_apart xs) h in
      arrivals_less (is_of m o x) x xs (without_own m o xs) rest
      (each_without m o (λ (y : Response). not (eqb x.arrival y.arrival)) xs (left_true (arrival_free x.arrival xs) (arrivals_apart xs) h))
      (arrivals_without xs rest)

  owns_less : (b : Bool) (x : Response) (xs ys : List Response) → owns_apart xs ≡ true → own_free x.member x.own_number ys ≡ true → owns_apart ys ≡ true → owns_apart (cond b xs (x ∷ ys)) ≡ true
  owns_less true x xs ys h g k = h
  owns_less false x xs ys h g k = both_true (own_free x.member x.own_number ys) (owns_apart ys) g k

  owns_without : (xs : List Response) → owns_apart xs ≡ true → owns_apart (without_own m o xs) ≡ true
  owns_without [] h = refl
  owns_without (x ∷ xs) h =
      let rest = right_true (own_free x.member x.own_number xs) (owns_apart xs) h in
      owns_less (is_of m o x) x xs (without_own m o xs) rest
      (each_without m o (λ (y : Response). not (is_of x.member x.own_number y)) xs (left_true (own_free x.member x.own_number xs) (owns_apart xs) h))
      (owns_without xs rest)

itself : (n : ℕ) → leb n n ≡ true
itself n = grind (arith, nat_tests)

pub apart_response : (a : OpenValues) (x : ResponseRequest) → is_some (own_response x.member x.own_number a.values.stood) ≡ false → Apart a → Apart (with_response a x)
apart_response a x h k =
    let xs = a.values.stood in
    record {
      arrived = each_push (λ (y : Response). leb y.arrival (a.arrivals + 1)) xs (as_stored a x) (arrived_next a.arrivals xs k.arrived) (itself (a.arrivals + 1));
      arrivals = apart_push xs (as_stored a x) k.arrivals (next_is_free a.arrivals xs k.arrived);
      owns = owns_push xs (as_stored a x) k.owns (sym (free_stands x.member x.own_number xs) ∙ ap not h);
    }

pub apart_change : (a : OpenValues) (x : ChangeRequest) → Apart a → Apart (with_change a x)
apart_change a x k =
    let xs = a.values.stood in
    record {
      arrived = each_rewritten (λ (y : Response). leb y.arrival (a.arrivals + 1)) x.member x.own_number (stored_size a x.size) (stored_price a x.price) (a.arrivals + 1) xs (λ y e. itself (a.arrivals + 1)) (arrived_next a.arrivals xs k.arrived);
      arrivals = arrivals_changed x.member x.own_number (stored_size a x.size) (stored_price a x.price) (a.arrivals + 1) xs (next_is_free a.arrivals xs k.arrived) k.arrivals;
      owns = owns_changed x.member x.own_number (stored_size a x.size) (stored_price a x.price) (a.arrivals + 1) xs k.owns;
    }

pub apart_withdrawal : (a : OpenValues) (x : WithdrawRequest) → Apart a → Apart (with_withdrawal a x)
apart_withdrawal a x k =
    let xs = a.values.stood in
    record {
      arrived = each_without x.member x.own_number (λ (y : Response). leb y.arrival a.arrivals) xs k.arrived;
      arrivals = arrivals_without x.member x.own_number xs k.arrivals;
      owns = owns_without x.member x.own_number xs k.owns;
    }
