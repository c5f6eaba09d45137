-- A session's answers are those of the run of the calls that were made, and those of its moments; and how the loop over the
-- calls goes on.
use Rattle.std.proofs.Common.{◌≡◌, Bool, true, false, cond, List, [], ◌∷◌, ◌++◌, map, Some, None, Option, sym, refl, ap, ◌∙◌, append_assoc}
use mathlib.Core.List.{map-append}
use Rattle.std.specs.Option.{option_map}
use Rattle.room.specs.declared.answers.ClaimNumbers.{ClaimNumbers}
use Rattle.room.specs.State.{RoomState}
use Rattle.room.specs.World.{World}
use Rattle.session.specs.declared.call.Call.{Call}
use Rattle.session.specs.Runs.{Answer, Moment, moment, step, run_from}
use Rattle.session.specs.SessionState.{SessionState, session_of, session_after, session_answer, session_answers, session_moment, session_moments, calls_made, session_end, answers_there}
use Rattle.session.specs.Purse.{is_made, purse_after}
use Rattle.session.proofs.Choices.{cond_through}

module _ {P T F Q : Type 0} (w : World P T F Q) where
  abbrev answers_of : List (Moment P T F Q) → List (Answer F)
  answers_of ms = map (λ (m : Moment P T F Q). m.answer) ms

  -- the answers to the calls that were made are those of their run
  of_made : (b : Bool) (s : SessionState P Q) (c : Call T) (cs : List (Call T)) → is_made c s.purse ≡ b
      → ((t : SessionState P Q) → answers_there (session_answers w t cs) ≡ answers_of (run_from w t.room (calls_made w t cs)))
      → answers_there (cond b (Some (step w s.room c).1) None ∷ session_answers w (session_after w s c) cs)
      ≡ answers_of (run_from w s.room (cond b (c ∷ calls_made w (session_after w s c) cs) (calls_made w (session_after w s c) cs)))
  of_made true s c cs h again =
      let after = session_after w s c in
      let is : after.room ≡ (step w s.room c).0 = ap (λ (b : Bool). (cond b (record { room = (step w s.room c).0; purse = purse_after c (step w s.room c).1 s.purse }) s).room) h in
      ap (λ l. (step w s.room c).1 ∷ l) (again after ∙ ap (λ r. answers_of (run_from w r (calls_made w after cs))) is)
  of_made false s c cs h again =
      let after = session_after w s c in
      let is : after.room ≡ s.room = ap (λ (b : Bool). (cond b (record { room = (step w s.room c).0; purse = purse_after c (step w s.room c).1 s.purse }) s).room) h in
      again after ∙ ap (λ r. answers_of (run_from w r (calls_made w after cs))) is

  pub answers_of_made : (s : SessionState P Q) (cs : List (Call T)) → answers_there (session_answers w s cs) ≡ answers_of (run_from w s.room (calls_made w s cs))
  answers_of_made s [] = refl
  answers_of_made s (c ∷ cs) = of_made (is_made c s.purse) s c cs refl (λ t. answers_of_made t cs)

  -- and those of the session's moments
  pub answers_of_moments : (s : SessionState P Q) (cs : List (Call T)) → session_answers w s cs ≡ map (option_map (λ (m : Moment P T F Q). m.answer)) (session_moments w s cs)
  answers_of_moments s [] = refl
  answers_of_moments s (c ∷ cs) =
      ap (λ a. a ∷ session_answers w (session_after w s c) cs) (sym (cond_through (option_map (λ (m : Moment P T F Q). m.answer)) (is_made c s.purse) (Some (moment w s.room c)) None))
      ∙ ap (λ l. option_map (λ (m : Moment P T F Q). m.answer) (session_moment w s c) ∷ l) (answers_of_moments (session_after w s c) cs)

  -- one call more was answered
  pub one_answered : (done done' : List (Option (Answer F))) (s s' : SessionState P Q) (a : Option (Answer F)) (c : Call T) (cs cs' : List (Call T))
      → done' ≡ done ++ a ∷ [] → s' ≡ session_after w s c → a ≡ session_answer w s c → cs ≡ c ∷ cs' → done' ++ session_answers w s' cs' ≡ done ++ session_answers w s cs
  one_answered done done' s s' a c cs cs' p e q took =
      ap (λ l. l ++ session_answers w s' cs') p ∙ append_assoc done (a ∷ []) (session_answers w s' cs') ∙ ap (λ x. done ++ x ∷ session_answers w s' cs') q
      ∙ ap (λ u. done ++ session_answer w s c ∷ session_answers w u cs') e ∙ ap (λ l. done ++ session_answers w s l) (sym took)

  pub one_ended : (s s' : SessionState P Q) (c : Call T) (cs cs' : List (Call T)) → s' ≡ session_after w s c → cs ≡ c ∷ cs' → session_end w s' cs' ≡ session_end w s cs
  one_ended s s' c cs cs' e took = ap (λ u. session_end w u cs') e ∙ ap (session_end w s) (sym took)

-- Both parts of a session are those of another.
pub session_is : {P Q : Type 0} (room : RoomState P Q) (purse : List ClaimNumbers) (s : SessionState P Q) → room ≡ s.room → purse ≡ s.purse → session_of room purse ≡ s
session_is room purse s r p = ap (λ x. session_of x purse) r ∙ ap (λ x. session_of s.room x) p

-- What was answered, with one answer more.
pub one_told : {A B : Type 0} (f : A → B) (xs ys : List A) (a : A) → ys ≡ xs ++ a ∷ [] → map f ys ≡ map f xs ++ f a ∷ []
one_told f xs ys a p = ap (map f) p ∙ map-append f xs (a ∷ [])
