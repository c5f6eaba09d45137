-- Calls at a desk, one after another, each as the contract of `call` says, and the desk's closing.
use Rattle.std.specs.Prelude.{◌≡◌, ℕ, List, [], ◌∷◌, ◌++◌, map}
use Rattle.room.specs.Rooms.{state_of}
use Rattle.room.specs.State.{RoomState, new_room}
use Rattle.room.specs.World.{World}
use Rattle.session.specs.Closed.{with_close, ClosedByCalls, ClosedTold}
use Rattle.session.specs.declared.answer.Answer.{Answer}
use Rattle.session.specs.declared.call.Call.{Call}
use Rattle.session.specs.declared.desk.Desk.{Desk}
use Rattle.session.specs.Desk.{desk_after, desk_answer}
use Rattle.session.specs.Promises.{Carried, WholePromise}
use Rattle.session.specs.Answer.{told}

-- A call at a desk: the desk before it and after it, and what it answered. (Where memory was wanting no call was made, and the
-- desk is as it was.)
pub record DeskCall (M R S T F : Type 0) : Type 0 where
  pub before : Desk M R S
  pub call : Call T
  pub answer : Answer F
  pub after : Desk M R S

-- No call was carried out yet: a room at its making, and no claim.
abbrev pub none_carried : {P T F Q : Type 0} → ℕ → P → Q → Carried P T F Q
none_carried number p q =
    record { start = record { number = number; market = p; source = q; purse = [] }; calls = []; answers = []; room = new_room number p q; claims = [] }

-- The desk behind the last of some calls.
abbrev pub last_desk : {M R S T F : Type 0} → Desk M R S → List (DeskCall M R S T F) → Desk M R S
last_desk d [] = d
last_desk d (c ∷ cs) = last_desk c.after cs

module _ {M R S P T D F Q : Type 0} (world : R → World P T F Q) (position : M → P) (source : S → Q) (fault : D → F) where
  abbrev pub room_at : Desk M R S → RoomState P Q
  room_at d = state_of position source d.session.room

  abbrev pub world_at : Desk M R S → World P T F Q
  world_at d = world d.session.room.ranking

  -- The clauses of `call`, where it answers.
  pub record DeskByContract (c : DeskCall M R S T D) : Type 0 where
    pub state : room_at c.after ≡ desk_after (world_at c.before) (room_at c.before) c.call
    pub answer : told fault c.answer ≡ desk_answer (world_at c.before) (room_at c.before) c.call
    pub ranking : c.after.session.room.ranking ≡ c.before.session.room.ranking

  -- Calls one after another, from a desk on: each finds the room that the one before it left.
  abbrev pub DeskInTurn : Desk M R S → List (DeskCall M R S T D) → Type 0
  DeskInTurn d [] = Unit {0}
  DeskInTurn d (c ∷ cs) = (c.before.session.room ≡ d.session.room) × DeskByContract c × DeskInTurn c.after cs

  -- Calls that were carried out, and behind them these, with their answers; and the room and the claims that the desk then has.
  abbrev pub desk_carried : Carried P T F Q → Desk M R S → List (DeskCall M R S T D) → Carried P T F Q
  desk_carried past d cs = record {
    start = past.start;
    calls = past.calls ++ map (λ (c : DeskCall M R S T D). c.call) cs;
    answers = past.answers ++ map (λ (c : DeskCall M R S T D). told fault c.answer) cs;
    room = room_at (last_desk d cs);
    claims = (last_desk d cs).session.purse.numbers;
  }

  -- The whole promise holds of the calls; and on, where the desk is then closed as the contract of `close` says.
  pub record DeskPromise (w : World P T F Q) (past : Carried P T F Q) (d : Desk M R S) (cs : List (DeskCall M R S T D)) : Type 0 where
    pub promise : WholePromise w (desk_carried past d cs)
    pub when_closed : (ts : List ClosedTold) (room : RoomState P Q) → ClosedByCalls (world_at (last_desk d cs)) (room_at (last_desk d cs)) ts room
        → WholePromise w (with_close (desk_carried past d cs) ts room)

  pub record DeskCallsKeepThePromise : Type 0 where
    -- All calls that are made one after another at a desk from its making,
    pub of_a_new_desk : (number : ℕ) (p : P) (q : Q) (d : Desk M R S) (cs : List (DeskCall M R S T D))
        → room_at d ≡ new_room number p q → DeskInTurn d cs → DeskPromise (world_at d) (none_carried number p q) d cs
    -- and all that are made at a desk behind calls of which the promise holds.
    pub behind_others : (past : Carried P T F Q) (d : Desk M R S) (cs : List (DeskCall M R S T D))
        → past.start.purse ≡ [] → WholePromise (world_at d) past → room_at d ≡ past.room → DeskInTurn d cs → DeskPromise (world_at d) past d cs
