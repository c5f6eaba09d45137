-- A desk: a room with the claims to all the auctions that it holds. Since these follow from the room, what a desk does is told
-- by its room's state alone.
use Rattle.std.specs.Prelude.{Option}
use Rattle.room.specs.State.{RoomState}
use Rattle.room.specs.World.{World}
use Rattle.session.specs.declared.call.Call.{Call}
use Rattle.session.specs.Runs.{Answer}
use Rattle.session.specs.SessionState.{SessionState, session_of, session_after, session_answer}
use Rattle.session.specs.Claims.{claims_to}

-- The room, and the claims to all the auctions that it holds.
abbrev pub at_desk : {P Q : Type 0} → RoomState P Q → SessionState P Q
at_desk s = session_of s (claims_to s)

module _ {P T F Q : Type 0} (w : World P T F Q) where
  -- One call made at a desk: the room after it, and what is answered.
  abbrev pub desk_after : RoomState P Q → Call T → RoomState P Q
  desk_after s c = (session_after w (at_desk s) c).room

  abbrev pub desk_answer : RoomState P Q → Call T → Option (Answer F)
  desk_answer s c = session_answer w (at_desk s) c
