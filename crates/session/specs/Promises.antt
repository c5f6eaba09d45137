-- The whole promise of calls that are carried out on a room from its making on. It is stated once, for all who carry out calls.
use Rattle.std.specs.Prelude.{◌≡◌, ℕ, List, [], map, Option}
use Rattle.room.specs.declared.answers.ClaimNumbers.{ClaimNumbers}
use Rattle.room.specs.State.{RoomState, new_room}
use Rattle.room.specs.World.{World}
use Rattle.session.specs.declared.call.Call.{Call}
use Rattle.session.specs.Claims.{claims_to}
use Rattle.session.specs.Laws.{LawsOfRun, LawsOfSession}
use Rattle.session.specs.Runs.{Answer, Moment, run}
use Rattle.session.specs.SessionState.{SessionState, session_of, session_answers, session_end, calls_made, answers_there}

-- What a room is made of, and the claims that are handed in beside it: its number, the positions of its market and its source,
-- and the claims' numbers.
pub record Start (P Q : Type 0) : Type 0 where
  pub number : ℕ
  pub market : P
  pub source : Q
  pub purse : List ClaimNumbers

-- Calls that were carried out on it: the answers in their order, none where no call was made; the room's state at the end; and
-- the numbers of the claims that are then held.
pub record Carried (P T F Q : Type 0) : Type 0 where
  pub start : Start P Q
  pub calls : List (Call T)
  pub answers : List (Option (Answer F))
  pub room : RoomState P Q
  pub claims : List ClaimNumbers

-- The room at its making, with the claims that are handed in.
abbrev pub at_first : {P Q : Type 0} → Start P Q → SessionState P Q
at_first s = session_of (new_room s.number s.market s.source) s.purse

-- What the model has of calls that were carried out.
pub record Modelled {P T F Q : Type 0} (w : World P T F Q) (c : Carried P T F Q) : Type 0 where
  pub answers : c.answers ≡ session_answers w (at_first c.start) c.calls
  pub room : c.room ≡ (session_end w (at_first c.start) c.calls).room
  pub claims : c.claims ≡ (session_end w (at_first c.start) c.calls).purse

module _ {P T F Q : Type 0} where
  -- The calls that are made: all but the collectings whose claim is not held.
  abbrev pub made_of : World P T F Q → Start P Q → List (Call T) → List (Call T)
  made_of w s cs = calls_made w (at_first s) cs

  -- The moments of the calls that are made.
  abbrev pub run_of : World P T F Q → Start P Q → List (Call T) → List (Moment P T F Q)
  run_of w s cs = run w s.number s.market s.source (made_of w s cs)

  pub record WholePromise (w : World P T F Q) (c : Carried P T F Q) : Type 0 where
    -- The answers are the model's, call by call; a collecting whose claim is not held is answered so.
    pub answers : c.answers ≡ session_answers w (at_first c.start) c.calls
    -- So are the room and the claims at the end: no claim is lost.
    pub room : c.room ≡ (session_end w (at_first c.start) c.calls).room
    pub claims : c.claims ≡ (session_end w (at_first c.start) c.calls).purse
    -- Where no claim was handed in, the claims that are held at the end are those to the auctions that the room then holds, to
    -- those that wait, the oldest first, and to the open one.
    pub own_claims : c.start.purse ≡ [] → c.claims ≡ claims_to c.room
    -- The answers to the calls that were made are those of their run from the room's making,
    pub of_the_run : answers_there c.answers ≡ map (λ (m : Moment P T F Q). m.answer) (run_of w c.start c.calls)
    -- and every law holds of that run.
    pub laws : LawsOfRun w c.start.number c.start.market c.start.source (made_of w c.start c.calls)
    -- The laws of the session hold, of the calls as they were handed in, with the collectings whose claim is not held: what a
    -- member may learn of them.
    pub session_laws : LawsOfSession w (at_first c.start) c.calls

-- Calls that were carried out as the model has them keep the whole promise.
abbrev pub ModelKeepsThePromise : {P T F Q : Type 0} → World P T F Q → Type 0
ModelKeepsThePromise {P} {T} {F} {Q} w = (c : Carried P T F Q) → Modelled w c → WholePromise w c
