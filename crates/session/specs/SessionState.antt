-- A session: calls on a room together with a purse of claims. Where the purse has no claim of a collecting's numbers, no
-- call is made.
use Rattle.std.specs.Prelude.{cond, List, [], ◌∷◌, Some, None, Option}
use Rattle.room.specs.declared.answers.ClaimNumbers.{ClaimNumbers}
use Rattle.room.specs.State.{RoomState}
use Rattle.room.specs.World.{World}
use Rattle.session.specs.declared.call.Call.{Call}
use Rattle.session.specs.Runs.{Answer, Moment, moment, step}
use Rattle.session.specs.Purse.{is_made, purse_after}

-- The room and the numbers of the claims that are held.
pub record SessionState (P Q : Type 0) : Type 0 where
  pub room : RoomState P Q
  pub purse : List ClaimNumbers

abbrev pub session_of : {P Q : Type 0} → RoomState P Q → List ClaimNumbers → SessionState P Q
session_of room purse = record { room = room; purse = purse }

module _ {P T F Q : Type 0} (w : World P T F Q) where
  abbrev pub session_after : SessionState P Q → Call T → SessionState P Q
  session_after s c =
      cond (is_made c s.purse) (record { room = (step w s.room c).0; purse = purse_after c (step w s.room c).1 s.purse }) s

  -- The room's answer; none where no call is made.
  abbrev pub session_answer : SessionState P Q → Call T → Option (Answer F)
  session_answer s c = cond (is_made c s.purse) (Some (step w s.room c).1) None

  -- The moment of a call on the room; none where no call is made.
  abbrev pub session_moment : SessionState P Q → Call T → Option (Moment P T F Q)
  session_moment s c = cond (is_made c s.purse) (Some (moment w s.room c)) None

  -- The answers to calls made one after another, from a session on; their moments; which of them were made; and the session
  -- at the end.
  abbrev pub session_answers : SessionState P Q → List (Call T) → List (Option (Answer F))
  session_answers s [] = []
  session_answers s (c ∷ cs) = session_answer s c ∷ session_answers (session_after s c) cs

  abbrev pub session_moments : SessionState P Q → List (Call T) → List (Option (Moment P T F Q))
  session_moments s [] = []
  session_moments s (c ∷ cs) = session_moment s c ∷ session_moments (session_after s c) cs

  abbrev pub calls_made : SessionState P Q → List (Call T) → List (Call T)
  calls_made s [] = []
  calls_made s (c ∷ cs) = cond (is_made c s.purse) (c ∷ calls_made (session_after s c) cs) (calls_made (session_after s c) cs)

  abbrev pub session_end : SessionState P Q → List (Call T) → SessionState P Q
  session_end s [] = s
  session_end s (c ∷ cs) = session_end (session_after s c) cs

-- Those that are there.
abbrev pub answers_there : {X : Type 0} → List (Option X) → List X
answers_there [] = []
answers_there (None ∷ xs) = answers_there xs
answers_there (Some x ∷ xs) = x ∷ answers_there xs
