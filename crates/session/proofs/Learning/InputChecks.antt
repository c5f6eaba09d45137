-- What the input checks tell: a call that passes them has a member, and of what is hidden they tell nothing.
use Rattle.std.proofs.Common.{◌≡◌, ℕ, ◌≤◌, Bool, true, false, cond, not, ltb, ℤ, pos, None, Option, sym, refl, ap, ◌∙◌, arith}
use Rattle.std.proofs.lemmas.Bool.Decides.{nat_tests}
use Rattle.allocation.specs.AuctionInvariant.{from_to}
use Rattle.room.specs.declared.requests.ChangeRequest.{ChangeRequest}
use Rattle.room.specs.declared.requests.OpeningRequest.{OpeningRequest}
use Rattle.room.specs.declared.requests.ResponseRequest.{ResponseRequest}
use Rattle.room.specs.Checks.{price_ok, size_ok, open_checks, respond_checks, change_checks}
use Rattle.room.specs.Refusals.{refuse}
use Rattle.room.proofs.Tests.{refuse_none}
use Rattle.session.proofs.Learning.Hidden.{kept_unless, opening_without, response_without, change_without}

a_member : (m : ℕ) → not (from_to 1 16 m) ≡ false → 1 ≤ m
a_member m h = grind (arith, nat_tests)

-- A call that passes its input checks has a member of 1 to 16.
member_of_checks : (a b c : Bool) (m : ℕ) (further : Option ℕ)
    → refuse a 1 (refuse b 2 (refuse c 3 (refuse (not (from_to 1 16 m)) 4 further))) ≡ None → 1 ≤ m
member_of_checks a b c m further h =
    let d = refuse (not (from_to 1 16 m)) 4 further in
    let in_time = refuse_none a 1 (refuse b 2 (refuse c 3 d)) h in
    let priced = refuse_none b 2 (refuse c 3 d) in_time.1 in
    let sized = refuse_none c 3 d priced.1 in
    a_member m (refuse_none (not (from_to 1 16 m)) 4 further sized.1).0

pub responding_member : (x : ResponseRequest) → respond_checks x ≡ None → 1 ≤ x.member
responding_member x h = member_of_checks _ (not (price_ok x.price)) (not (size_ok x.size)) x.member _ h

pub changing_member : (x : ChangeRequest) → change_checks x ≡ None → 1 ≤ x.member
changing_member x h = member_of_checks _ (not (price_ok x.price)) (not (size_ok x.size)) x.member _ h

-- What stands for a hidden term is inside its limits as the term is, and a term outside its limits is not hidden.
limits_by : {X : Type 0} (in_limits : X → Bool) (blank x : X) (b : Bool) → in_limits blank ≡ true → in_limits x ≡ b → in_limits (cond b blank x) ≡ b
limits_by in_limits blank x true h e = h
limits_by in_limits blank x false h e = e

limits_same : {X : Type 0} (in_limits : X → Bool) (blank x : X) → in_limits blank ≡ true → in_limits (kept_unless in_limits blank x) ≡ in_limits x
limits_same in_limits blank x h = limits_by in_limits blank x (in_limits x) h refl

-- So the input checks tell nothing of what is hidden.
module _ (F : Type 0) where
  pub open_checks_same : (x : OpeningRequest) → open_checks x ≡ open_checks (opening_without x)
  open_checks_same x =
      ap (λ b. refuse (ltb 4000000000000 x.time) 1 (refuse (not (price_ok x.order.limit)) 2 (refuse (not b) 2 (refuse (not (size_ok x.order.size)) 3 (refuse (not (from_to 1 16 x.member)) 4 None)))))
      (sym (limits_same price_ok (pos 0) x.order.guarantee.price refl))

  terms_checks_same : (time member own_number : Bool) (price : ℤ) (size : ℕ)
      → let checks : Bool → Bool → Option ℕ = λ a b. refuse time 1 (refuse (not a) 2 (refuse (not b) 3 (refuse member 4 (refuse own_number 5 None)))) in
      checks (price_ok price) (size_ok size) ≡ checks (price_ok (kept_unless price_ok (pos 0) price)) (size_ok (kept_unless size_ok 1 size))
  terms_checks_same time member own_number price size =
      let checks : Bool → Bool → Option ℕ = λ a b. refuse time 1 (refuse (not a) 2 (refuse (not b) 3 (refuse member 4 (refuse own_number 5 None)))) in
      ap (λ a. checks a (size_ok size)) (sym (limits_same price_ok (pos 0) price refl))
      ∙ ap (λ b. checks (price_ok (kept_unless price_ok (pos 0) price)) b) (sym (limits_same size_ok 1 size refl))

  pub respond_checks_same : (x : ResponseRequest) → respond_checks x ≡ respond_checks (response_without false x)
  respond_checks_same x = terms_checks_same (ltb 4000000000000 x.time) (not (from_to 1 16 x.member)) (not (from_to 1 4 x.own_number)) x.price x.size

  pub change_checks_same : (x : ChangeRequest) → change_checks x ≡ change_checks (change_without false x)
  change_checks_same x = terms_checks_same (ltb 4000000000000 x.time) (not (from_to 1 16 x.member)) (not (from_to 1 4 x.own_number)) x.price x.size
