-- What holds of an auction's values in every run, and that each call keeps it: the floor is not above the initiating
-- price, the guarantee neither, a single stop is not below the floor, and every response lies between floor and
-- initiating price with a size from 1 up to the order's.
use Rattle.std.proofs.Common.{◌≡◌, ℕ, min, Bool, true, false, cond, leb, List, [], ◌∷◌, ◌++◌, ℤ, Some, None, Ok, Option, sym, refl, subst, arith}
use borrow.Author.Differences.{ints}
use lib.Signed.{le_z, lt_z}
use Rattle.std.proofs.lemmas.Bool.Decides.{nat_tests}
use Rattle.std.specs.Int.{int_max, int_min}
use Rattle.market.specs.declared.quote.Quote.{Quote}
use Rattle.market.specs.declared.range.TurnedQuote.{TurnedQuote}
use Rattle.market.specs.declared.side.Side.{Side}
use Rattle.market.specs.Range.{RangePrices, permitted_range, range_from, range_faced, turned_quote}
use Rattle.market.specs.Limits.{in_limits}
use Rattle.market.specs.Side.{turned_price}
use Rattle.allocation.specs.declared.order.GuaranteeKind.{GuaranteeKind}
use Rattle.allocation.specs.declared.order.GuaranteeKind.TheVariants.{SingleStop, AutoMatchLimit}
use Rattle.allocation.specs.declared.order.PairedOrder.{PairedOrder}
use Rattle.allocation.specs.declared.response.Response.{Response}
use Rattle.allocation.specs.Auction.{AuctionValues, with_stood, with_floor}
use Rattle.allocation.specs.AuctionInvariant.{stop_ok, stored_ok, response_ok, each}
use Rattle.allocation.specs.Table.{is_of, with_terms, own_changed, without_own, any_below}
use Rattle.room.specs.Openings.{new_values}
use Rattle.room.specs.Responses.{}
use Rattle.room.specs.Ticks.{above_stop, ends_for, tick_cause, floor_now}
use Rattle.room.proofs.Tests.{both_true, left_true, right_true, or_false_left, or_false_right, none_some, ok_err, cond_ok, cond_ok_else}

pub record Sound (v : AuctionValues) : Type 0 where
  pub sized : leb 1 v.order.size ≡ true
  pub in_order : le_z v.floor v.initiating ≡ true
  pub guaranteed_at : le_z v.order.guarantee.price v.initiating ≡ true
  pub stop_at : stop_ok v.order.guarantee.kind v.floor v.order.guarantee.price ≡ true
  pub standing : each (response_ok v.order.size v.floor v.initiating) v.stood ≡ true

-- a permitted range runs from the floor to the initiating price
range_ordered : (side : Side) (limit floor contra : ℤ) (r : RangePrices) → range_from side limit floor contra ≡ Ok r → le_z r.floor r.initiating ≡ true
range_ordered side limit floor contra r h =
    let found = cond_ok (lt_z (int_min limit contra) floor) _ _ r h in
    let above = found.0 in
    let low : le_z floor (int_min limit contra) ≡ true = grind (arith, ints, nat_tests) in
    subst (λ (x : RangePrices). le_z x.floor x.initiating ≡ true) found.1 low

faced_ordered : (side : Side) (limit : ℤ) (floor contra : Option ℤ) (r : RangePrices) → range_faced side limit floor contra ≡ Ok r → le_z r.floor r.initiating ≡ true
faced_ordered side limit None contra r h = ok_err r _ (sym h)
faced_ordered side limit (Some floor) None r h = ok_err r _ (sym h)
faced_ordered side limit (Some floor) (Some contra) r h = range_ordered side limit floor contra r h

pub permitted_ordered : (side : Side) (limit : ℤ) (q : Quote) (r : RangePrices) → permitted_range side limit q ≡ Ok r → le_z r.floor r.initiating ≡ true
permitted_ordered side limit q r h =
    faced_ordered side (turned_price side limit) (turned_quote side q).floor (turned_quote side q).contra r (cond_ok_else (in_limits (Some limit)) _ _ r h).1

-- a stored stop is not below the floor
stop_stored : (k : GuaranteeKind) (floor z : ℤ) → stop_ok k floor (int_max floor z) ≡ true
stop_stored SingleStop floor z = grind (arith, ints, nat_tests)
stop_stored AutoMatchLimit floor z = refl

most_of_two : (a b c : ℤ) → le_z a c ≡ true → lt_z c b ≡ false → le_z (int_max a b) c ≡ true
most_of_two a b c h k = grind (arith, ints, nat_tests)

-- a new auction is sound
pub new_sound : (o : PairedOrder) (r : RangePrices) → leb 1 o.size ≡ true → le_z r.floor r.initiating ≡ true → lt_z r.initiating (turned_price o.side o.guarantee.price) ≡ false → Sound (new_values o r)
new_sound o r s h k = record {
  sized = s;
  in_order = h;
  guaranteed_at = most_of_two r.floor (turned_price o.side o.guarantee.price) r.initiating h k;
  stop_at = stop_stored o.guarantee.kind r.floor (turned_price o.side o.guarantee.price);
  standing = refl;
}

-- a size and a price as they are stored may stand
pub stored_may_stand : (most : ℕ) (floor initiating : ℤ) (size : ℕ) (z : ℤ) → leb 1 most ≡ true → le_z floor initiating ≡ true → leb 1 size ≡ true → lt_z initiating z ≡ false → stored_ok most floor initiating (min size most) (int_max floor z) ≡ true
stored_may_stand most floor initiating size z a b c d = grind (arith, ints, nat_tests)

-- a response with another size and price that may stand
restored_ok : (most : ℕ) (floor initiating : ℤ) (size : ℕ) (z : ℤ) (n : ℕ) (x : Response) → stored_ok most floor initiating size z ≡ true → response_ok most floor initiating x ≡ true → response_ok most floor initiating (with_terms size z n x) ≡ true
restored_ok most floor initiating size z n x k h = grind (arith, ints, nat_tests)

changed_at : (b : Bool) (t : Response → Bool) (x y : Response) (xs ys : List Response) → t x ≡ true → t y ≡ true → each t xs ≡ true → each t ys ≡ true → each t (cond b (y ∷ xs) (x ∷ ys)) ≡ true
changed_at true t x y xs ys a c d e = both_true (t y) (each t xs) c d
changed_at false t x y xs ys a c d e = both_true (t x) (each t ys) a e

-- what holds of each response holds of each after one was changed, if it holds of that one
pub each_rewritten : (t : Response → Bool) (m o size : ℕ) (z : ℤ) (n : ℕ) (xs : List Response) → ((x : Response) → t x ≡ true → t (with_terms size z n x) ≡ true) → each t xs ≡ true → each t (own_changed m o size z n xs) ≡ true
each_rewritten t m o size z n [] k h = refl
each_rewritten t m o size z n (x ∷ xs) k h =
    let here = left_true (t x) (each t xs) h in
    let rest = right_true (t x) (each t xs) h in
    changed_at (is_of m o x) t x (with_terms size z n x) xs (own_changed m o size z n xs) here (k x here) rest (each_rewritten t m o size z n xs k rest)

pub each_changed : (m o most : ℕ) (floor initiating : ℤ) (size : ℕ) (z : ℤ) (n : ℕ) (xs : List Response) → stored_ok most floor initiating size z ≡ true → each (response_ok most floor initiating) xs ≡ true → each (response_ok most floor initiating) (own_changed m o size z n xs) ≡ true
each_changed m o most floor initiating size z n xs k h = each_rewritten (response_ok most floor initiating) m o size z n xs (λ (x : Response). restored_ok most floor initiating size z n x k) h

removed_at : (b : Bool) (t : Response → Bool) (x : Response) (xs ys : List Response) → t x ≡ true → each t xs ≡ true → each t ys ≡ true → each t (cond b xs (x ∷ ys)) ≡ true
removed_at true t x xs ys a c d = c
removed_at false t x xs ys a c d = both_true (t x) (each t ys) a d

pub each_without : (m o : ℕ) (t : Response → Bool) (xs : List Response) → each t xs ≡ true → each t (without_own m o xs) ≡ true
each_without m o t [] h = refl
each_without m o t (x ∷ xs) h =
    let rest = right_true (t x) (each t xs) h in
    removed_at (is_of m o x) t x xs (without_own m o xs) (left_true (t x) (each t xs) h) rest (each_without m o t xs rest)

-- the same auction with other responses that may stand
pub stood_sound : (v : AuctionValues) (xs : List Response) → Sound v → each (response_ok v.order.size v.floor v.initiating) xs ≡ true → Sound (with_stood v xs)
stood_sound v xs h k = record { sized = h.sized; in_order = h.in_order; guaranteed_at = h.guaranteed_at; stop_at = h.stop_at; standing = k }

-- a response that may stand above one floor may stand above another that is not above its price
refloored : (most : ℕ) (old new initiating : ℤ) (x : Response) → lt_z x.price new ≡ false → response_ok most old initiating x ≡ true → response_ok most new initiating x ≡ true
refloored most old new initiating x k h = grind (arith, ints, nat_tests)

all_refloored : (most : ℕ) (old new initiating : ℤ) (xs : List Response) → any_below new xs ≡ false → each (response_ok most old initiating) xs ≡ true → each (response_ok most new initiating) xs ≡ true
all_refloored most old new initiating [] k h = refl
all_refloored most old new initiating (x ∷ xs) k h =
    both_true (response_ok most new initiating x) _
    (refloored most old new initiating x (or_false_left (lt_z x.price new) _ k) (left_true (response_ok most old initiating x) _ h))
    (all_refloored most old new initiating xs (or_false_right (lt_z x.price new) _ k) (right_true (response_ok most old initiating x) _ h))

stop_refloored : (k : GuaranteeKind) (new z : ℤ) → above_stop (Some new) k z ≡ false → stop_ok k new z ≡ true
stop_refloored SingleStop new z h = grind (arith, ints, nat_tests)
stop_refloored AutoMatchLimit new z h = refl

-- a test that brings no cause failed
pub ends_for_none : (b : Bool) (c : ℕ) (further : Option ℕ) → ends_for b c further ≡ None → (b ≡ false) × (further ≡ None)
ends_for_none true c further h = none_some c (sym h)
ends_for_none false c further h = (refl, h)

-- the floor that a tick shows, where it ends nothing, keeps an auction sound
floor_sound : (v : AuctionValues) (floor contra : Option ℤ) → tick_cause v (record { floor = floor; contra = contra }) ≡ None → Sound v → Sound (with_floor v (floor_now floor v.floor))
floor_sound v None contra e h = h
floor_sound v (Some new) contra e h =
    let first = ends_for_none (lt_z v.initiating new) _ _ e in
    let second = ends_for_none (any_below new v.stood) _ _ first.1 in
    let third = ends_for_none (above_stop (Some new) v.order.guarantee.kind v.order.guarantee.price) _ _ second.1 in
    let above = first.0 in
    record {
      sized = h.sized;
      in_order = grind (arith, ints, nat_tests);
      guaranteed_at = h.guaranteed_at;
      stop_at = stop_refloored v.order.guarantee.kind new v.order.guarantee.price third.0;
      standing = all_refloored v.order.size v.floor new v.initiating v.stood second.0 h.standing;
    }

pub tick_sound : (v : AuctionValues) (q : TurnedQuote) → tick_cause v q ≡ None → Sound v → Sound (with_floor v (floor_now q.floor v.floor))
tick_sound v q e h = floor_sound v q.floor q.contra e h
