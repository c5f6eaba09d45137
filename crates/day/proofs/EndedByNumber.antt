-- Which auction ended at a call is told by the numbers of those that are open before it and after it.
use Rattle.std.proofs.Common.{◌≡◌, refl, ℕ, Bool, true, false, cond, not, ◌&&◌, ◌==◌, Option, Some, None, arith}
use Rattle.std.proofs.lemmas.Bool.Decides.{nat_tests}
use Rattle.std.specs.Option.{option_map}
use Rattle.day.specs.CarriedOut.{CubeRoom, CubeWorld}
use Rattle.day.specs.Ends.{CubeMoment, ended_in, ended_number, ended_of, open_number}
use Rattle.day.specs.Lines.{CubeCall}
use Rattle.market.specs.Cube.{CubePosition}
use Rattle.room.specs.State.{OpenValues}
use Rattle.script.specs.declared.chosen.ChosenInterval.{ChosenInterval}
use Rattle.session.specs.Desk.{at_desk, desk_after}
use Rattle.session.specs.Runs.{moment, step}
use Rattle.session.specs.SessionState.{SessionState, session_moment}
use Rattle.session.specs.Purse.{is_made, purse_after}

same_number : (n : ℕ) → (n == n) ≡ true
same_number n = grind (arith, nat_tests)

either_way : (b : Bool) (n : ℕ) → cond (true && not b) (Some n) None ≡ cond b None (Some n)
either_way true n = refl
either_way false n = refl

of_open : (m : CubeMoment) (x y : Option OpenValues) → m.before.current ≡ x → m.after.current ≡ y
    → ended_of x m ≡ ended_number (option_map (λ (a : OpenValues). a.number) x) (option_map (λ (a : OpenValues). a.number) y)
of_open m None y before after = refl
of_open m (Some a) None before after = rw (before, after, same_number a.number) refl
of_open m (Some a) (Some b) before after = rw (before, after, same_number a.number) (either_way (b.number == a.number) a.number)

nothing_ends : (x : Option OpenValues) → None ≡ ended_number (option_map (λ (a : OpenValues). a.number) x) (option_map (λ (a : OpenValues). a.number) x)
nothing_ends None = refl
nothing_ends (Some a) = rw (same_number a.number) refl

made_or_not : (w : CubeWorld) (s : CubeRoom) (t : SessionState CubePosition ChosenInterval) (c : CubeCall) (b : Bool)
    → ended_in (cond b (Some (moment w s c)) None) ≡ ended_number (open_number s) (open_number (cond b (record { room = (step w s c).0; purse = purse_after c (step w s c).1 t.purse }) (record t { room = s })).room)
made_or_not w s t c true = of_open (moment w s c) s.current (step w s c).0.current refl refl
made_or_not w s t c false = nothing_ends s.current

pub ended_by_number : (w : CubeWorld) (s : CubeRoom) (c : CubeCall)
    → ended_in (session_moment w (at_desk s) c) ≡ ended_number (open_number s) (open_number (desk_after w s c))
ended_by_number w s c = made_or_not w s (at_desk s) c (is_made c (at_desk s).purse)
