-- The closing of a desk: what is told of the auctions that it held, and the calls that it comes to.
use Rattle.std.specs.Prelude.{ℕ, List, [], ◌∷◌, length, map, take, Some, None, Option, ◌≡◌, ◌++◌}
use Rattle.std.specs.Option.{option_map}
use Rattle.allocation.specs.declared.fill.FillRow.{FillRow}
use Rattle.room.specs.declared.answers.ClaimNumbers.{ClaimNumbers}
use Rattle.room.specs.Collecting.{CollectionTold, fill_rows}
use Rattle.room.specs.Halts.{halt_call}
use Rattle.room.specs.Rooms.{collection_told}
use Rattle.room.specs.State.{EndedValues, RoomState, with_waiting}
use Rattle.room.specs.World.{World}
use Rattle.session.specs.declared.call.Call.{Call}
use Rattle.session.specs.declared.closed.ClosedAuction.{ClosedAuction}
use Rattle.session.specs.Runs.{Answer, Accepted, Collected}
use Rattle.session.specs.SessionState.{session_of, answers_there, session_answers, session_end}
use Rattle.session.specs.Claims.{claim_to}
use Rattle.session.specs.declared.call.Call.TheVariants.{Halt, Collect}
use Rattle.session.specs.Desk.{at_desk}
use Rattle.session.specs.Promises.{Carried}

-- What is told of an auction that was collected: the numbers of its claim, the row count and the letter of the cause, and its rows.
pub record ClosedTold : Type 0 where
  pub claim : ClaimNumbers
  pub collection : CollectionTold
  pub rows : List FillRow

abbrev pub closed_told : ClosedAuction → ClosedTold
closed_told c = record { claim = c.claim; collection = collection_told c.collection; rows = take c.collection.count c.rows }

abbrev pub listed_told : Option ClosedAuction → Option ClosedAuction → List ClosedTold
listed_told first second = answers_there (option_map closed_told first ∷ (option_map closed_told second ∷ []))

-- The first of a list, if there is one.
abbrev pub first_of : {X : Type 0} → List X → Option X
first_of [] = None
first_of (x ∷ xs) = Some x

module _ {P T F Q : Type 0} (w : World P T F Q) where
  -- Of an auction that ended in a room of this number.
  abbrev pub told_of_ended : ℕ → EndedValues → ClosedTold
  told_of_ended number e =
      record { claim = claim_to number e.number; collection = record { count = length (fill_rows w e); cause = e.cause }; rows = fill_rows w e }

  -- Of each auction that waits in a room, the oldest first.
  abbrev pub told_of_waiting : RoomState P Q → List ClosedTold
  told_of_waiting s = map (told_of_ended s.number) s.waiting

  -- Closing: the room is halted, at its own time, so that an open auction ends, and each auction that waits is collected, the
  -- oldest first.
  abbrev pub halted_last : RoomState P Q → RoomState P Q
  halted_last s = (halt_call {F = F} s 0).0

  abbrev pub told_at_close : RoomState P Q → List ClosedTold
  told_at_close s = told_of_waiting (halted_last s)

  abbrev pub after_close : RoomState P Q → RoomState P Q
  after_close s = with_waiting [] (halted_last s)

-- A collecting with the claim of an auction that is told, with a list of 129 rows, and its answer.
abbrev pub collecting : {T : Type 0} → ClosedTold → Call T
collecting t = Collect t.claim 129

abbrev pub collecting_answer : {F : Type 0} → ClosedTold → Option (Answer F)
collecting_answer t = Some (Collected t.collection t.rows)

-- A desk is closed by a halt at time 0, so at the room's own time, and by a collecting for each auction that is then told.
abbrev pub closing_calls : {T : Type 0} → List ClosedTold → List (Call T)
closing_calls ts = Halt 0 ∷ map collecting ts

abbrev pub closing_answers : {F : Type 0} → List ClosedTold → List (Option (Answer F))
closing_answers ts = Some Accepted ∷ map collecting_answer ts

module _ {P T F Q : Type 0} where
  -- The calls and their answers, with those of the close behind them; the room when it is closed; and no claim.
  abbrev pub with_close : Carried P T F Q → List ClosedTold → RoomState P Q → Carried P T F Q
  with_close c ts room =
      record { start = c.start; calls = c.calls ++ closing_calls ts; answers = c.answers ++ closing_answers ts; room = room; claims = [] }

  -- So it is if the desk is closed next: what is told then, and the room.
  abbrev pub closed_at_once : World P T F Q → Carried P T F Q → Carried P T F Q
  closed_at_once w c = with_close c (told_at_close w c.room) (after_close w c.room)

  -- A desk with a room was closed as if these calls had been made at it: what is told are their answers, and then no claim is
  -- held.
  pub record ClosedByCalls (w : World P T F Q) (s : RoomState P Q) (ts : List ClosedTold) (room : RoomState P Q) : Type 0 where
    pub answers : session_answers w (at_desk s) (closing_calls ts) ≡ closing_answers ts
    pub end : session_end w (at_desk s) (closing_calls ts) ≡ session_of room []
