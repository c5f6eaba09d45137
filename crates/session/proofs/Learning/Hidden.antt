-- A call without what is hidden from a member. Calls that are alike to the member are equal without it.
use Rattle.std.proofs.Common.{◌≡◌, inl, inr, ℕ, Bool, cond, not, ◌&&◌, ℤ, pos, eqb, sym, refl, ap, ◌∙◌, arith}
use borrow.Author.Differences.{ints}
use Rattle.std.proofs.lemmas.Bool.Decides.{nat_tests}
use Rattle.std.proofs.lemmas.Bool.{cond-true}
use Rattle.allocation.specs.declared.order.Guarantee.{Guarantee}
use Rattle.allocation.specs.declared.order.GuaranteeKind.TheVariants.{SingleStop}
use Rattle.allocation.specs.declared.order.PairedOrder.{PairedOrder}
use Rattle.allocation.specs.declared.response.Class.TheVariants.{Customer}
use Rattle.room.specs.declared.requests.ChangeRequest.{ChangeRequest}
use Rattle.room.specs.declared.requests.OpeningRequest.{OpeningRequest}
use Rattle.room.specs.declared.requests.ResponseRequest.{ResponseRequest}
use Rattle.room.specs.Checks.{price_ok, size_ok}
use Rattle.session.specs.declared.call.Call.{Call}
use Rattle.session.specs.declared.call.Call.TheVariants.{Open, Respond, Change}
use Rattle.session.specs.Learning.{HiddenOrEqual, price_inside, size_inside, class_inside, OpeningsAlike, ResponsesAlike, ChangesAlike, Alike}

-- A term, or what stands for it where it is hidden.
abbrev pub kept_unless : {X : Type 0} → (X → Bool) → X → X → X
kept_unless hidden blank x = cond (hidden x) blank x

abbrev pub guarantee_without : Guarantee → Guarantee
guarantee_without g = record { kind = SingleStop; price = kept_unless price_ok (pos 0) g.price }

abbrev pub order_without : PairedOrder → PairedOrder
order_without o = record { side = o.side; size = o.size; limit = o.limit; guarantee = guarantee_without o.guarantee }

abbrev pub opening_without : OpeningRequest → OpeningRequest
opening_without x = record { time = x.time; member = x.member; order = order_without x.order }

-- Of a response or change of another member. It is said first whether it is the member's own.
abbrev another_and : {X : Type 0} → Bool → (X → Bool) → X → Bool
another_and is_own in_limits x = not is_own && in_limits x

abbrev pub response_without : Bool → ResponseRequest → ResponseRequest
response_without is_own x = record {
  time = x.time;
  member = x.member;
  own_number = x.own_number;
  side = x.side;
  kind = x.kind;
  class = kept_unless (another_and is_own class_inside) Customer x.class;
  size = kept_unless (another_and is_own size_ok) 1 x.size;
  price = kept_unless (another_and is_own price_ok) (pos 0) x.price;
}

abbrev pub change_without : Bool → ChangeRequest → ChangeRequest
change_without is_own x = record {
  time = x.time;
  member = x.member;
  own_number = x.own_number;
  size = kept_unless (another_and is_own size_ok) 1 x.size;
  price = kept_unless (another_and is_own price_ok) (pos 0) x.price;
}

abbrev pub without_hidden : {T : Type 0} → ℕ → Call T → Call T
without_hidden u (Open x) = Open (opening_without x)
without_hidden u (Respond x) = Respond (response_without (eqb x.member u) x)
without_hidden u (Change x) = Change (change_without (eqb x.member u) x)
without_hidden u c = c

-- A term that is hidden on both sides, or equal, is equal where what is hidden is left out.
same_kept : {X : Type 0} (hidden : X → Bool) (blank x y : X) → HiddenOrEqual hidden x y → kept_unless hidden blank x ≡ kept_unless hidden blank y
same_kept hidden blank x y (inl h) = cond-true (hidden x) blank x h.0 ∙ sym (cond-true (hidden y) blank y h.1)
same_kept hidden blank x y (inr e) = ap (kept_unless hidden blank) e

-- The limits by the law's words and by the room's checks.
price_is : (z : ℤ) → price_inside z ≡ price_ok z
price_is z = grind (arith, ints, nat_tests)

size_is : (n : ℕ) → size_inside n ≡ size_ok n
size_is n = grind (arith, nat_tests)

same_test : {X : Type 0} (f g : X → Bool) (x y : X) → ((z : X) → f z ≡ g z) → HiddenOrEqual f x y → HiddenOrEqual g x y
same_test f g x y e (inl h) = inl (sym (e x) ∙ h.0, sym (e y) ∙ h.1)
same_test f g x y e (inr h) = inr h

of_another : {X : Type 0} (mine : Bool) (f g : X → Bool) (x y : X) → ((z : X) → f z ≡ g z) → HiddenOrEqual (another_and mine f) x y → HiddenOrEqual (another_and mine g) x y
of_another mine f g x y e = same_test (another_and mine f) (another_and mine g) x y (λ z. ap (λ b. not mine && b) (e z))

openings_same : (x y : OpeningRequest) → OpeningsAlike x y → opening_without x ≡ opening_without y
openings_same x y a =
    rw (a.time, a.member, a.side, a.size, a.limit, same_kept price_ok (pos 0) x.order.guarantee.price y.order.guarantee.price (same_test price_inside price_ok x.order.guarantee.price y.order.guarantee.price price_is a.guarantee_price)) refl

responses_same : (u : ℕ) (x y : ResponseRequest) → ResponsesAlike u x y → response_without (eqb x.member u) x ≡ response_without (eqb y.member u) y
responses_same u x y a =
    let mine = eqb x.member u in
    rw
    (same_kept (another_and mine price_ok) (pos 0) x.price y.price (of_another mine price_inside price_ok x.price y.price price_is a.price), same_kept (another_and mine size_ok) 1 x.size y.size (of_another mine size_inside size_ok x.size y.size size_is a.size), same_kept (another_and mine class_inside) Customer x.class y.class a.class, a.time, a.member, a.own_number, a.side, a.kind)
    refl

changes_same : (u : ℕ) (x y : ChangeRequest) → ChangesAlike u x y → change_without (eqb x.member u) x ≡ change_without (eqb y.member u) y
changes_same u x y a =
    let mine = eqb x.member u in
    rw
    (same_kept (another_and mine price_ok) (pos 0) x.price y.price (of_another mine price_inside price_ok x.price y.price price_is a.price), same_kept (another_and mine size_ok) 1 x.size y.size (of_another mine size_inside size_ok x.size y.size size_is a.size), a.time, a.member, a.own_number)
    refl

pub same_without_hidden : {T : Type 0} (u : ℕ) (c d : Call T) → Alike u c d → without_hidden u c ≡ without_hidden u d
same_without_hidden u (Open x) (Open y) a = ap Open (openings_same x y a)
same_without_hidden u (Respond x) (Respond y) a = ap Respond (responses_same u x y a)
same_without_hidden u (Change x) (Change y) a = ap Change (changes_same u x y a)
same_without_hidden u c d a = ap (without_hidden u) a
