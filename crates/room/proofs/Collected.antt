-- Collecting: one auction less waits, or the same; and a refused one leaves the state.
use Rattle.std.proofs.Common.{◌≡◌, ℕ, ◌≤◌, Bool, true, false, cond, eqb, List, [], ◌∷◌, length, Ok, Err, Result, sym, refl, arith}
use Rattle.room.specs.Refusals.{RefusalTold, outcome}
use Rattle.room.specs.State.{EndedValues, without_number}
use Rattle.room.proofs.Tests.{ok_err}

no_longer : (b : Bool) (e : EndedValues) (es fewer : List EndedValues) → length fewer ≤ length es → length (cond b es (e ∷ fewer)) ≤ length (e ∷ es)
no_longer true e es fewer h = omega arith
no_longer false e es fewer h = omega arith

pub without_no_longer : (n : ℕ) (es : List EndedValues) → length (without_number n es) ≤ length es
without_no_longer n [] = omega arith
without_no_longer n (e ∷ es) = no_longer (eqb e.number n) e es (without_number n es) (without_no_longer n es)

pub refused_leaves : {S X Y F : Type 0} (y : Result X ℕ) (s : S) (effect : X → S) (answer : X → Y) (e : RefusalTold F) → Err e ≡ (outcome y s effect answer).1 → (outcome {F = F} y s effect answer).0 ≡ s
refused_leaves (Ok x) s effect answer e h = ok_err _ _ (sym h)
refused_leaves (Err n) s effect answer e h = refl
