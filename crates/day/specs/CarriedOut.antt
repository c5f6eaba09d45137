-- What carrying out the calls of a script comes to.
use Rattle.std.specs.Prelude.{◌≡◌, List, []}
use Rattle.day.specs.Lines.{CubeCall}
use Rattle.market.specs.Cube.{CubeTick, CubePosition, cube_meaning, cube_position, cube_start, CubeFaultTold}
use Rattle.market.specs.declared.better_of.BetterOf.{BetterOf}
use Rattle.market.specs.declared.improve.Improve.{Improve}
use Rattle.market.specs.declared.legs.Legs.{Legs}
use Rattle.market.specs.declared.touch.Touch.{Touch}
use Rattle.market.specs.Legs.{legs_of}
use Rattle.room.specs.Rooms.{state_of, world_of}
use Rattle.room.specs.State.{RoomState}
use Rattle.room.specs.World.{World}
use Rattle.script.specs.Chosen.{chosen_ahead, chosen_meaning}
use Rattle.script.specs.declared.chosen.ChosenInterval.{ChosenInterval}
use Rattle.script.specs.declared.chosen.ChosenRanking.{ChosenRanking}
use Rattle.script.specs.declared.setup.room_terms.RoomTerms.{RoomTerms}
use Rattle.script.specs.Told.{AnswerTold}
use Rattle.session.specs.Claims.{claims_to}
use Rattle.session.specs.Closed.{with_close, ClosedTold, told_at_close}
use Rattle.session.specs.declared.desk.Desk.{Desk}
use Rattle.session.specs.Desk.{at_desk}
use Rattle.session.specs.Promises.{Start, Carried, WholePromise}
use Rattle.session.specs.SessionState.{session_answers, session_end}

abbrev pub CubeWorld : Type 0
CubeWorld = World CubePosition CubeTick CubeFaultTold ChosenInterval

abbrev pub CubeRoom : Type 0
CubeRoom = RoomState CubePosition ChosenInterval

-- The CUBE market, with the interval source that the script chose and this ranking.
abbrev pub world_ranked : ChosenRanking → CubeWorld
world_ranked ranking = world_of cube_meaning chosen_meaning (chosen_ahead ranking)

abbrev pub world_in : RoomTerms → CubeWorld
world_in terms = world_ranked terms.ranking

-- The room at its making: no quote in the book, the legs as they were told, and no claim.
abbrev pub start_in : RoomTerms → Start CubePosition ChosenInterval
start_in terms = record { number = terms.number; market = cube_start (legs_of terms.legs); source = terms.source; purse = [] }

-- The desk at which the calls are made, and its room.
abbrev pub CubeDesk : Type 0
CubeDesk = Desk (BetterOf (Improve Touch) (Improve Legs)) ChosenRanking ChosenInterval

abbrev pub room_at : CubeDesk → CubeRoom
room_at d = state_of cube_position (λ s. s) d.session.room

abbrev pub world_at : CubeDesk → CubeWorld
world_at d = world_ranked d.session.room.ranking

-- The answers to calls that are made at a desk with this room, and the room behind them.
abbrev pub answers_to : CubeWorld → CubeRoom → List CubeCall → List AnswerTold
answers_to w s cs = session_answers w (at_desk s) cs

abbrev pub room_behind : CubeWorld → CubeRoom → List CubeCall → CubeRoom
room_behind w s cs = (session_end w (at_desk s) cs).room

-- The desk behind these calls.
pub record DeskBehind (before : CubeDesk) (calls : List CubeCall) (after : CubeDesk) : Type 0 where
  pub room : room_at after ≡ room_behind (world_at before) (room_at before) calls
  pub ranking : after.session.room.ranking ≡ before.session.room.ranking

-- The calls with their answers, behind the last of which the room was in this state.
abbrev pub calls_carried : RoomTerms → List CubeCall → List AnswerTold → CubeRoom → Carried CubePosition CubeTick CubeFaultTold ChosenInterval
calls_carried terms calls answers room = record { start = start_in terms; calls = calls; answers = answers; room = room; claims = claims_to room }

pub record CarriedOut (terms : RoomTerms) (calls : List CubeCall) : Type 0 where
  -- The answers, and the room behind the last call.
  pub answers : List AnswerTold
  pub room : CubeRoom
  -- The whole promise holds of the calls and their answers,
  pub promise : WholePromise (world_in terms) (calls_carried terms calls answers room)
  -- what is told of each auction that the room then held is the model's, when it is halted and they are collected,
  pub at_end : List ClosedTold
  pub told_at_end : at_end ≡ told_at_close (world_in terms) room
  -- and the whole promise holds on, of the calls and this halt and these collectings, with what is told as their answers.
  pub closed_room : CubeRoom
  pub when_closed : WholePromise (world_in terms) (with_close (calls_carried terms calls answers room) at_end closed_room)
