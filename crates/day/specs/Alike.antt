-- Scripts that are alike to a member, and the law of what it may read of their transcripts.
use Rattle.std.specs.Prelude.{◌≡◌, ℕ, List, [], ◌∷◌, map}
use Rattle.day.specs.Calls.{calls_in}
use Rattle.day.specs.CarriedOut.{world_in, start_in}
use Rattle.day.specs.Member.{TextFor}
use Rattle.day.specs.Lines.{Line, Entry, Call}
use Rattle.script.specs.declared.setup.room_terms.RoomTerms.{RoomTerms}
use Rattle.session.specs.Learning.{Alike}
use Rattle.session.specs.Promises.{at_first}
use Rattle.session.specs.SessionLearning.{opens_if_made, ends_if_made}
use Rattle.session.specs.SessionState.{session_moments}

-- What is no call is alike to whatever is no call.
abbrev pub EntriesAlike : ℕ → Entry → Entry → Type 0
EntriesAlike member (Call c) (Call d) = Alike member c d
EntriesAlike member (Call c) _ = ⊥
EntriesAlike member _ (Call d) = ⊥
EntriesAlike member _ _ = Unit {0}

-- Lines of equal numbers, place by place.
abbrev pub LinesAlike : ℕ → List Line → List Line → Type 0
LinesAlike member [] [] = Unit {0}
LinesAlike member [] (m ∷ ms) = ⊥
LinesAlike member (l ∷ ls) [] = ⊥
LinesAlike member (l ∷ ls) (m ∷ ms) = (l.number ≡ m.number) × EntriesAlike member l.entry m.entry × LinesAlike member ls ms

-- Every script is alike to itself to each member, whatever in it is outside its limits or not understood.
abbrev pub ScriptAlikeToItself : Type 0
ScriptAlikeToItself = (member : ℕ) (ls : List Line) → LinesAlike member ls ls

-- Two scripts in rooms of the same terms, whose lines are alike to a member, and in which openings are accepted at the same
-- places and auctions end at the same places: their texts for the member are the same.
abbrev pub MemberReadsTheSame : Type 0
MemberReadsTheSame =
    (member : ℕ) (terms : RoomTerms) (ls ms : List Line) (text other : List ℕ)
    → TextFor member terms ls text → TextFor member terms ms other
    → LinesAlike member ls ms
    → map opens_if_made (session_moments (world_in terms) (at_first (start_in terms)) (calls_in ls))
    ≡ map opens_if_made (session_moments (world_in terms) (at_first (start_in terms)) (calls_in ms))
    → map ends_if_made (session_moments (world_in terms) (at_first (start_in terms)) (calls_in ls))
    ≡ map ends_if_made (session_moments (world_in terms) (at_first (start_in terms)) (calls_in ms))
    → text ≡ other
