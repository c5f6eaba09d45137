-- Notes of lines that are carried out one after another: of each what the room before it tells.
use Rattle.std.specs.Prelude.{List, [], ◌∷◌}
use Rattle.day.specs.Calls.{call_in}
use Rattle.day.specs.CarriedOut.{CubeRoom, CubeWorld, room_behind}
use Rattle.day.specs.Lines.{Line}

module _ {X : Type 0} (after : CubeWorld → CubeRoom → Line → X → X) (w : CubeWorld) where
  abbrev pub notes_after_all : CubeRoom → List Line → X → X
  notes_after_all s [] x = x
  notes_after_all s (l ∷ ls) x = notes_after_all (room_behind w s (call_in l.entry)) ls (after w s l x)
