-- Small facts on tests and refusals: what follows from a test that did not refuse.
use Rattle.std.proofs.Common.{◌≡◌, ℕ, Bool, true, false, cond, ◌&&◌, ◌||◌, Some, None, Ok, Err, Option, Result, sym, refl}
use Rattle.std.proofs.lemmas.Bool.{true≢false, and_from, and_parts, or_parts}
use Rattle.room.specs.Refusals.{refuse, unless, and_then}

pub true_false : {X : Type 0} → true ≡ false → X
true_false h = absurd (true≢false h)

pub none_some : {X Y : Type 0} (x : X) → None ≡ Some x → Y
none_some x h = cc

pub ok_err : {X Y R : Type 0} (x : X) (e : R) → Ok x ≡ Err e → Y
ok_err x e h = cc

pub both_true : (a b : Bool) → a ≡ true → b ≡ true → (a && b) ≡ true
both_true = and_from

pub left_true : (a b : Bool) → (a && b) ≡ true → a ≡ true
left_true a b h = (and_parts a b h).0

pub right_true : (a b : Bool) → (a && b) ≡ true → b ≡ true
right_true a b h = (and_parts a b h).1

pub or_false_left : (a b : Bool) → (a || b) ≡ false → a ≡ false
or_false_left a b h = (or_parts a b h).0

pub or_false_right : (a b : Bool) → (a || b) ≡ false → b ≡ false
or_false_right a b h = (or_parts a b h).1

-- a test that refuses nothing fails, and so do those behind it
pub refuse_none : (b : Bool) (n : ℕ) (further : Option ℕ) → refuse b n further ≡ None → (b ≡ false) × (further ≡ None)
refuse_none true n further h = none_some _ (sym h)
refuse_none false n further h = (refl, h)

-- what is accepted was not refused before
pub unless_ok : {X R : Type 0} (o : Option R) (y : Result X R) (x : X) → unless o y ≡ Ok x → (o ≡ None) × (y ≡ Ok x)
unless_ok None y x h = (refl, h)
unless_ok (Some e) y x h = ok_err x e (sym h)

-- what two steps accept, the first accepted, and the second of it
pub and_then_ok : {X Y R : Type 0} (r : Result X R) (f : X → Result Y R) (y : Y) → and_then r f ≡ Ok y → (x : X) × (r ≡ Ok x) × (f x ≡ Ok y)
and_then_ok (Ok x) f y h = (x, refl, h)
and_then_ok (Err e) f y h = ok_err y e (sym h)

-- what a test does not refuse is answered
pub cond_ok : {X R : Type 0} (b : Bool) (e : R) (x r : X) → cond b (Err e) (Ok x) ≡ Ok r → (b ≡ false) × (x ≡ r)
cond_ok true e x r h = ok_err r e (sym h)
cond_ok false e x r h = (refl, cc)

pub cond_ok_else : {X R : Type 0} (b : Bool) (e : R) (y : Result X R) (r : X) → cond b y (Err e) ≡ Ok r → (b ≡ true) × (y ≡ Ok r)
cond_ok_else true e y r h = (refl, h)
cond_ok_else false e y r h = ok_err r e (sym h)
