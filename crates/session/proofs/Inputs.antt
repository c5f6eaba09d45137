-- The input checks by the room and by the history: a call that a room refuses for what it hands in is told the first input
-- check that it fails.
use Rattle.std.proofs.Common.{◌≡◌, ℕ, Bool, cond, not, ℤ, is_some, Some, None, Option, sym, refl, ap, ◌∙◌, arith}
use borrow.Author.Differences.{ints}
use Rattle.std.proofs.lemmas.Bool.Decides.{nat_tests}
use Rattle.allocation.specs.AuctionInvariant.{from_to}
use Rattle.room.specs.Checks.{price_ok}
use Rattle.room.specs.Refusals.{refuse}
use Rattle.session.specs.declared.call.Call.{Call}
use Rattle.session.specs.declared.call.Call.TheVariants.{Open, Respond, Change, Withdraw}
use Rattle.session.specs.Inputs.{beyond_prices, outside, input_reason}
use Rattle.session.specs.Runs.{input_refusal}

outside_is : (least most n : ℕ) → not (from_to least most n) ≡ outside least most n
outside_is least most n = grind (arith, nat_tests)

beyond_is : (z : ℤ) → not (price_ok z) ≡ beyond_prices z
beyond_is z = grind (arith, ints, nat_tests)

-- a check that refuses is told by its number
pub same_check : (b c : Bool) (n : ℕ) (o k : Option ℕ) → b ≡ c → o ≡ k → refuse b n o ≡ cond c (Some n) k
same_check b c n o k h g = ap (λ (x : Bool). cond x (Some n) o) h ∙ ap (cond c (Some n)) g

pub input_reason_is : {T : Type 0} (c : Call T) → input_refusal c ≡ input_reason c
input_reason_is (Open x) =
    same_check _ _ 1 _ _ refl
    (same_check _ _ 2 _ _ (beyond_is x.order.limit)
    (same_check _ _ 2 _ _ (beyond_is x.order.guarantee.price)
    (same_check _ _ 3 _ _ (outside_is 1 100000 x.order.size)
    (same_check _ _ 4 None None (outside_is 1 16 x.member) refl))))
input_reason_is (Respond x) =
    same_check _ _ 1 _ _ refl
    (same_check _ _ 2 _ _ (beyond_is x.price)
    (same_check _ _ 3 _ _ (outside_is 1 100000 x.size)
    (same_check _ _ 4 _ _ (outside_is 1 16 x.member)
    (same_check _ _ 5 None None (outside_is 1 4 x.own_number) refl))))
input_reason_is (Change x) =
    same_check _ _ 1 _ _ refl
    (same_check _ _ 2 _ _ (beyond_is x.price)
    (same_check _ _ 3 _ _ (outside_is 1 100000 x.size)
    (same_check _ _ 4 _ _ (outside_is 1 16 x.member)
    (same_check _ _ 5 None None (outside_is 1 4 x.own_number) refl))))
input_reason_is (Withdraw x) =
    same_check _ _ 1 _ _ refl
    (same_check _ _ 4 _ _ (outside_is 1 16 x.member)
    (same_check _ _ 5 None None (outside_is 1 4 x.own_number) refl))
input_reason_is _ = refl

-- a call fails an input check exactly if it is refused for one
pub fails_same : {T : Type 0} (c : Call T) → is_some (input_reason c) ≡ is_some (input_refusal c)
fails_same c = ap is_some (sym (input_reason_is c))
