-- The member sees the same in two sessions: at every call it knows the same of both rooms, and the same claims are held,
-- since both go on by what is the same in both.
use Rattle.std.proofs.Common.{◌≡◌, ℕ, Bool, true, false, cond, List, [], ◌∷◌, map, is_some, Some, None, Option, sym, refl, ap, ◌∙◌}
use Rattle.room.specs.declared.answers.ClaimNumbers.{ClaimNumbers}
use Rattle.room.specs.World.{World}
use Rattle.session.specs.declared.call.Call.{Call}
use Rattle.session.specs.Learning.{AllAlike, Alike, opens_here, ends_here}
use Rattle.session.specs.Runs.{Answer, Moment, step, moment}
use Rattle.session.specs.SessionLearning.{ShownTheSame, MemberSeesTheSameInSessions, opens_if_made, ends_if_made, seen_if_made}
use Rattle.session.specs.SessionState.{SessionState, session_of, session_after, session_moment, session_moments}
use Rattle.session.specs.Purse.{is_made, purse_after}
use Rattle.session.proofs.Learning.Claims.{purse_known, hidden_made, claims_follow}
use Rattle.session.proofs.Learning.Hidden.{without_hidden, same_without_hidden}
use Rattle.session.proofs.Learning.Known.{Known, known, known_step}
use Rattle.session.proofs.Learning.Learned.{same_head, same_tail}
use Rattle.session.proofs.Learning.Steps.{follows}

-- Of a session: what a member knows of the room, and the claims that are held.
record KnownSession (P Q : Type 0) : Type 0 where
  pub room : Known P Q
  pub purse : List ClaimNumbers

-- And of a call in it: what is known after it, whether it is made, and what the member is shown.
record LearnedAt (P F Q : Type 0) : Type 0 where
  pub then : KnownSession P Q
  pub made : Bool
  pub shown : Option (Answer F)

module _ {P T F Q : Type 0} (w : World P T F Q) (u : ℕ) where
  abbrev known_session : SessionState P Q → KnownSession P Q
  known_session s = record { room = known u s.room; purse = s.purse }

  abbrev learned : SessionState P Q → Option (Moment P T F Q) → LearnedAt P F Q
  learned after m = record { then = known_session after; made = is_some m; shown = seen_if_made u m }

  -- It follows from what was known before, from the call without what is hidden, from whether it opens an auction, and from
  -- whether one ends.
  abbrev made_step : Bool → Bool → KnownSession P Q → Call T → LearnedAt P F Q
  made_step opens ends k c =
      let y = known_step w u opens ends k.room c in record { then = record { room = y.0; purse = purse_known F opens k.room c k.purse }; made = true; shown = y.1 }

  abbrev step_by : Bool → Bool → Bool → KnownSession P Q → Call T → LearnedAt P F Q
  step_by b opens ends k c = cond b (made_step opens ends k c) (record { then = k; made = false; shown = None })

  abbrev learned_step : Bool → Bool → KnownSession P Q → Call T → LearnedAt P F Q
  learned_step opens ends k c = step_by (is_made c k.purse) opens ends k c

  made_follows : (s : SessionState P Q) (c : Call T)
      → let m = moment w s.room c in
      learned (session_of (step w s.room c).0 (purse_after c (step w s.room c).1 s.purse)) (Some m) ≡ made_step (opens_here m) (ends_here m) (known_session s) (without_hidden u c)
  made_follows s c =
      let y = follows w u s.room c in
      let purse = purse_after c (step w s.room c).1 s.purse in
      ap (λ (z : Known P Q × Option (Answer F)). record { then = record { room = z.0; purse = purse }; made = true; shown = z.1 }) y
      ∙ ap (λ p. let z = known_step w u (opens_here (moment w s.room c)) (ends_here (moment w s.room c)) (known u s.room) (without_hidden u c) in record { then = record { room = z.0; purse = p }; made = true; shown = z.1 }) (claims_follow w u s.room c s.purse)

  follows_by : (b : Bool) (s : SessionState P Q) (c : Call T)
      → let m = cond b (Some (moment w s.room c)) None in
      learned (cond b (session_of (step w s.room c).0 (purse_after c (step w s.room c).1 s.purse)) s) m ≡ step_by b (opens_if_made m) (ends_if_made m) (known_session s) (without_hidden u c)
  follows_by true s c = made_follows s c
  follows_by false s c = refl

  session_follows : (s : SessionState P Q) (c : Call T)
      → let m = session_moment w s c in
      learned (session_after w s c) m ≡ learned_step (opens_if_made m) (ends_if_made m) (known_session s) (without_hidden u c)
  session_follows s c =
      let m = session_moment w s c in
      follows_by (is_made c s.purse) s c
      ∙ ap (λ b. step_by b (opens_if_made m) (ends_if_made m) (known_session s) (without_hidden u c)) (sym (hidden_made u c s.purse))

  -- One call in each session.
  same_call : (s z : SessionState P Q) (c d : Call T) → known_session s ≡ known_session z → Alike u c d
      → opens_if_made (session_moment w s c) ≡ opens_if_made (session_moment w z d) → ends_if_made (session_moment w s c) ≡ ends_if_made (session_moment w z d)
      → learned (session_after w s c) (session_moment w s c) ≡ learned (session_after w z d) (session_moment w z d)
  same_call s z c d k a o e =
      let opens = opens_if_made (session_moment w z d) in
      let ends = ends_if_made (session_moment w z d) in
      session_follows s c
      ∙ ap (λ b. learned_step b (ends_if_made (session_moment w s c)) (known_session s) (without_hidden u c)) o
      ∙ ap (λ b. learned_step opens b (known_session s) (without_hidden u c)) e
      ∙ ap (λ j. learned_step opens ends j (without_hidden u c)) k
      ∙ ap (λ x. learned_step opens ends (known_session z) x) (same_without_hidden u c d a)
      ∙ sym (session_follows z d)

  -- All calls, from sessions of which the same is known.
  two_sessions : (s z : SessionState P Q) (cs ds : List (Call T)) → known_session s ≡ known_session z → AllAlike u cs ds
      → map opens_if_made (session_moments w s cs) ≡ map opens_if_made (session_moments w z ds)
      → map ends_if_made (session_moments w s cs) ≡ map ends_if_made (session_moments w z ds)
      → ShownTheSame u (session_moments w s cs) (session_moments w z ds)
  two_sessions s z [] [] k a o e = record { shown = refl; made = refl }
  two_sessions s z [] (d ∷ ds) k a o e = absurd a
  two_sessions s z (c ∷ cs) [] k a o e = absurd a
  two_sessions s z (c ∷ cs) (d ∷ ds) k a o e =
      let y = same_call s z c d k a.0 (same_head _ _ _ _ o) (same_head _ _ _ _ e) in
      let rest = two_sessions (session_after w s c) (session_after w z d) cs ds (ap (λ (l : LearnedAt P F Q). l.then) y) a.1 (same_tail _ _ _ _ o) (same_tail _ _ _ _ e) in
      record {
        shown =
            ap (λ (l : LearnedAt P F Q). l.shown ∷ map (seen_if_made u) (session_moments w (session_after w s c) cs)) y
            ∙ ap (λ l. seen_if_made u (session_moment w z d) ∷ l) rest.shown;
        made =
            ap (λ (l : LearnedAt P F Q). l.made ∷ map is_some (session_moments w (session_after w s c) cs)) y
            ∙ ap (λ l. is_some (session_moment w z d) ∷ l) rest.made;
      }

pub member_sees_the_same_in_sessions : {P T F Q : Type 0} (w : World P T F Q) → MemberSeesTheSameInSessions w
member_sees_the_same_in_sessions w s u cs ds a o e = two_sessions w u s s cs ds refl a o e
