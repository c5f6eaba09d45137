-- Where auctions end, as a transcript tells it.
use Rattle.std.specs.Prelude.{ℕ, cond, List, [], ◌∷◌, ◌++◌, codes, map, Option, Some, None}
use Rattle.std.specs.Fmt.{decimal}
use Rattle.std.specs.Option.{option_map}
use Rattle.day.specs.CarriedOut.{CubeRoom, CubeWorld}
use Rattle.day.specs.Lines.{CubeCall}
use Rattle.day.specs.declared.ends.Ends.{Ends}
use Rattle.day.specs.declared.ends.Ends.TheVariants.{Omitted, Shown}
use Rattle.market.specs.Cube.{CubeTick, CubePosition, CubeFaultTold}
use Rattle.room.specs.State.{OpenValues}
use Rattle.script.specs.declared.chosen.ChosenInterval.{ChosenInterval}
use Rattle.session.specs.Desk.{at_desk}
use Rattle.session.specs.History.{is_same}
use Rattle.session.specs.Moments.{ends_at}
use Rattle.session.specs.Runs.{Moment}
use Rattle.session.specs.SessionState.{session_moments}

abbrev pub CubeMoment : Type 0
CubeMoment = Moment CubePosition CubeTick CubeFaultTold ChosenInterval

-- The auction that was open before a call, if it ended at it: the law of ending says when that is.
abbrev pub ended_of : Option OpenValues → CubeMoment → Option ℕ
ended_of None m = None
ended_of (Some a) m = cond (ends_at a.number m) (Some a.number) None

abbrev pub ended_in : Option CubeMoment → Option ℕ
ended_in None = None
ended_in (Some m) = ended_of m.before.current m

-- At each of the calls; none of it where it is not asked for.
abbrev pub ended_at : Ends → List (Option CubeMoment) → List (Option ℕ)
ended_at Omitted ms = []
ended_at Shown ms = map ended_in ms

-- At calls that are made at a desk with this room.
abbrev pub ended_to : Ends → CubeWorld → CubeRoom → List CubeCall → List (Option ℕ)
ended_to e w s cs = ended_at e (session_moments w (at_desk s) cs)

-- The same by the numbers of the auctions that are open before a call and after it.
abbrev pub open_number : CubeRoom → Option ℕ
open_number s = option_map (λ (a : OpenValues). a.number) s.current

abbrev pub ended_number : Option ℕ → Option ℕ → Option ℕ
ended_number None after = None
ended_number (Some n) after = cond (is_same n after) None (Some n)

-- ended 1, on a line of its own with two blanks in front
abbrev pub ended_text : Option ℕ → List ℕ
ended_text None = []
ended_text (Some n) = codes "  ended " ++ (decimal n ++ codes "\n")

-- What is written of the first of these calls.
abbrev pub first_ended_text : List (Option ℕ) → List ℕ
first_ended_text [] = []
first_ended_text (e ∷ es) = ended_text e
