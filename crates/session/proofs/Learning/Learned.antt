-- The member sees the same in two runs: at every call it knows the same of both rooms, since what it knows goes on by
-- what is the same in both.
use Rattle.std.proofs.Common.{◌≡◌, ℕ, List, [], ◌∷◌, map, Option, sym, refl, ap, ◌∙◌}
use Rattle.room.specs.State.{RoomState, new_room}
use Rattle.room.specs.World.{World}
use Rattle.session.specs.declared.call.Call.{Call}
use Rattle.session.specs.Learning.{AllAlike, Alike, MemberSeesTheSame, seen_by, opens_here, ends_here}
use Rattle.session.specs.Runs.{Answer, step, moment, run_from}
use Rattle.session.proofs.Learning.Hidden.{without_hidden, same_without_hidden}
use Rattle.session.proofs.Learning.Known.{Known, known, known_step}
use Rattle.session.proofs.Learning.Steps.{follows}

pub same_head : {X : Type 0} (x y : X) (xs ys : List X) → x ∷ xs ≡ y ∷ ys → x ≡ y
same_head x y xs ys h = cc

pub same_tail : {X : Type 0} (x y : X) (xs ys : List X) → x ∷ xs ≡ y ∷ ys → xs ≡ ys
same_tail x y xs ys h = cc

module _ {P T F Q : Type 0} (w : World P T F Q) (u : ℕ) where
  -- Of what the member knows and is shown, with the room and the call that they come from.
  abbrev learned : RoomState P Q → Call T → Known P Q × Option (Answer F)
  learned s c = (known u (step w s c).0, seen_by u (moment w s c))

  -- One call in each run.
  same_call : (s z : RoomState P Q) (c d : Call T) → known u s ≡ known u z → Alike u c d
      → opens_here (moment w s c) ≡ opens_here (moment w z d) → ends_here (moment w s c) ≡ ends_here (moment w z d)
      → learned s c ≡ learned z d
  same_call s z c d k a o e =
      follows w u s c
      ∙ ap (λ b. known_step w u b (ends_here (moment w s c)) (known u s) (without_hidden u c)) o
      ∙ ap (λ b. known_step w u (opens_here (moment w z d)) b (known u s) (without_hidden u c)) e
      ∙ ap (λ j. known_step w u (opens_here (moment w z d)) (ends_here (moment w z d)) j (without_hidden u c)) k
      ∙ ap (λ x. known_step w u (opens_here (moment w z d)) (ends_here (moment w z d)) (known u z) x) (same_without_hidden u c d a)
      ∙ sym (follows w u z d)

  -- All calls, from rooms of which the member knows the same.
  two_runs : (s z : RoomState P Q) (cs ds : List (Call T)) → known u s ≡ known u z → AllAlike u cs ds
      → map opens_here (run_from w s cs) ≡ map opens_here (run_from w z ds)
      → map ends_here (run_from w s cs) ≡ map ends_here (run_from w z ds)
      → map (seen_by u) (run_from w s cs) ≡ map (seen_by u) (run_from w z ds)
  two_runs s z [] [] k a o e = refl
  two_runs s z [] (d ∷ ds) k a o e = absurd a
  two_runs s z (c ∷ cs) [] k a o e = absurd a
  two_runs s z (c ∷ cs) (d ∷ ds) k a o e =
      let y = same_call s z c d k a.0 (same_head _ _ _ _ o) (same_head _ _ _ _ e) in
      ap (λ x. x ∷ map (seen_by u) (run_from w (step w s c).0 cs)) (ap (λ p. p.1) y)
      ∙ ap (λ l. seen_by u (moment w z d) ∷ l)
      (two_runs (step w s c).0 (step w z d).0 cs ds (ap (λ p. p.0) y) a.1 (same_tail _ _ _ _ o) (same_tail _ _ _ _ e))

pub member_sees_the_same : {P T F Q : Type 0} (w : World P T F Q) → MemberSeesTheSame w
member_sees_the_same w number p q u cs ds a o e = two_runs w u (new_room number p q) (new_room number p q) cs ds refl a o e
