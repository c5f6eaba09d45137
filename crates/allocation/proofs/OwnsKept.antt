-- What a change of the table or of the floor keeps besides: members with own numbers that differ, and what holds of each
-- response when one more is stored and when the floor moves.
use Rattle.std.proofs.Common.{◌≡◌, ℕ, zero, suc, ◌+◌, true, false, not, ltb, List, [], ◌∷◌, ◌++◌, length, take, drop, ℤ, is_some, sym, ◌∙◌, add-one, arith}
use Rattle.std.proofs.lemmas.Bool.{and_parts}
use Rattle.std.proofs.lemmas.Bool.Decides.{nat_tests}
use Rattle.std.proofs.lemmas.Int.{ints}
use Rattle.allocation.specs.Auction.{AuctionValues, may_store}
use Rattle.allocation.specs.AuctionInvariant.{response_ok, each, arrival_free, own_free, owns_apart}
use Rattle.allocation.specs.Table.{is_of, own_response, change_at, any_below}
use Rattle.allocation.specs.declared.response.Response.{Response}
use Rattle.allocation.proofs.AuctionKept.{each_push, each_changed, each_less}
use Rattle.allocation.proofs.OwnResponses.{free_stands}

-- what is known of a response that may be stored behind those that stand
pub record NewStands (a : AuctionValues) (x : Response) : Type 0 where
  pub stands : response_ok a.order.size a.floor a.initiating x ≡ true
  pub arrival : arrival_free x.arrival a.stood ≡ true
  pub own_number : own_free x.member x.own_number a.stood ≡ true
  pub few : ltb (length a.stood) 64 ≡ true

pub new_stands : (a : AuctionValues) (x : Response) → may_store a x ≡ true → NewStands a x
new_stands a x h =
    let stands = and_parts (response_ok a.order.size a.floor a.initiating x) _ h in
    let arrival = and_parts (arrival_free x.arrival a.stood) _ stands.1 in
    let own_number = and_parts (not (is_some (own_response x.member x.own_number a.stood))) _ arrival.1 in
    record { stands = stands.0; arrival = arrival.0; own_number = sym (free_stands x.member x.own_number a.stood) ∙ own_number.0; few = own_number.1 }

pub owns_push : (xs : List Response) (x : Response) → owns_apart xs ≡ true → own_free x.member x.own_number xs ≡ true → owns_apart (xs ++ x ∷ []) ≡ true
owns_push [] x h k = grind arith
owns_push (y ∷ ys) x h k =
    let free = each_push (λ (z : Response). not (is_of y.member y.own_number z)) ys x in
    grind (arith, nat_tests, free, owns_push ys x)

-- a change leaves the member and the own number
pub owns_rewritten : (i size : ℕ) (price : ℤ) (arrival : ℕ) (xs : List Response) → owns_apart xs ≡ true → owns_apart (change_at i size price arrival xs) ≡ true
owns_rewritten i size price arrival [] h = grind arith
owns_rewritten zero size price arrival (x ∷ xs) h = grind arith
owns_rewritten (suc i) size price arrival (x ∷ xs) h =
    let free = each_changed (λ (y : Response). not (is_of x.member x.own_number y)) i size price arrival xs in
    grind (arith, free, owns_rewritten i size price arrival xs)

owns_less : (i : ℕ) (xs : List Response) → owns_apart xs ≡ true → owns_apart (take i xs ++ drop (suc i) xs) ≡ true
owns_less zero [] h = grind arith
owns_less (suc i) [] h = grind arith
owns_less zero (x ∷ xs) h = grind arith
owns_less (suc i) (x ∷ xs) h = grind (arith, each_less (λ (y : Response). not (is_of x.member x.own_number y)) i xs, owns_less i xs)

pub owns_without : (i : ℕ) (xs : List Response) → owns_apart xs ≡ true → owns_apart (take i xs ++ drop (i + 1) xs) ≡ true
owns_without i xs h = rw (add-one i) (owns_less i xs h)

-- a response in the range that is not below another floor is in the range from that floor
pub each_raised : (most : ℕ) (floor higher initiating : ℤ) (xs : List Response) → each (response_ok most floor initiating) xs ≡ true → any_below higher xs ≡ false → each (response_ok most higher initiating) xs ≡ true
each_raised most floor higher initiating [] h k = grind arith
each_raised most floor higher initiating (x ∷ xs) h k = grind (arith, ints, each_raised most floor higher initiating xs)
