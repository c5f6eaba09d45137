-- Taking a room apart.
use Rattle.std.specs.Prelude.{◌≡◌, Bool, not, ◌&&◌, is_some}
use Rattle.room.specs.declared.parts.RoomParts.{RoomParts}
use Rattle.room.specs.declared.Room.{Room}
use Rattle.room.specs.Openings.{any_waits}
use Rattle.room.specs.State.{RoomState}

-- No auction is open in the room, and none waits to be collected.
abbrev pub holds_none : {P Q : Type 0} → RoomState P Q → Bool
holds_none s = not (is_some s.current) && not (any_waits s.waiting)

-- The very market, ranking and source of a room.
pub record PartsOf {M R S : Type 0} (room : Room M R S) (parts : RoomParts M R S) : Type 0 where
  pub market : parts.market ≡ room.market
  pub ranking : parts.ranking ≡ room.ranking
  pub source : parts.source ≡ room.source
