-- Choices by a test: one that goes through a function, and one that chose nothing.
use Rattle.std.proofs.Common.{◌≡◌, Bool, true, false, cond, Some, None, Option, sym, refl}
use Rattle.room.proofs.Tests.{none_some}

pub cond_through : {X Y : Type 0} (f : X → Y) (b : Bool) (x y : X) → f (cond b x y) ≡ cond b (f x) (f y)
cond_through f true x y = refl
cond_through f false x y = refl

pub cond_some_none : {X : Type 0} (b : Bool) (x : X) (o : Option X) → cond b (Some x) o ≡ None → (b ≡ false) × (o ≡ None)
cond_some_none true x o h = none_some x (sym h)
cond_some_none false x o h = (refl, h)
