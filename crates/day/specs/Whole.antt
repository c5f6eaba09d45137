-- What the transcript of a whole script says.
use Rattle.std.specs.Prelude.{◌≡◌, ℕ, Bool, true, false, List, [], ◌∷◌, ◌++◌, codes, Option, Some, None}
use Rattle.std.specs.List.{flat_map, list_all}
use Rattle.std.specs.Option.{option_map}
use Rattle.std.specs.Fmt.{decimal}
use Rattle.std.specs.Str.Lines.{lines}
use Rattle.day.specs.Calls.{call_in, calls_in}
use Rattle.day.specs.CarriedOut.{CarriedOut, CubeRoom, CubeWorld, answers_to, start_in, world_in}
use Rattle.day.specs.declared.ends.Ends.{Ends}
use Rattle.day.specs.Ends.{ended_at, ended_to, first_ended_text}
use Rattle.day.specs.Member.{transcript_line, answers_behind}
use Rattle.day.specs.Lines.{CubeCall, Line, Entry, Replied, Call, Range, settings_behind_lines, room_of, script_lines}
use Rattle.market.specs.Cube.{CubeTick, CubePosition, cube_meaning, cube_start}
use Rattle.market.specs.Legs.{legs_of}
use Rattle.market.specs.Range.{permitted_range}
use Rattle.script.specs.declared.setup.room_terms.RoomTerms.{RoomTerms}
use Rattle.script.specs.declared.statement.RangeQuestion.{RangeQuestion}
use Rattle.script.specs.Reply.{range_reply, reply_text}
use Rattle.script.specs.Setup.{no_settings, room_in, room_values}
use Rattle.script.specs.Answer.{answer_text, collected_text}
use Rattle.script.specs.Told.{AnswerTold}
use Rattle.session.specs.Closed.{ClosedTold}
use Rattle.session.specs.History.{tick_in}
use Rattle.session.specs.Promises.{at_first}
use Rattle.session.specs.Runs.{Accepted}
use Rattle.session.specs.SessionState.{session_moments}

-- The market behind a call: it takes a tick that the room accepted, and nothing else.
abbrev pub market_taking : CubePosition → Option CubeTick → AnswerTold → CubePosition
market_taking p (Some tick) (Some Accepted) = cube_meaning.next p tick
market_taking p tick a = p

abbrev pub market_after : CubePosition → CubeCall → AnswerTold → CubePosition
market_after p c a = market_taking p (tick_in c) a

-- The market behind a line, which is answered by the first of the answers if it is a call.
abbrev pub market_behind : CubePosition → Entry → List AnswerTold → CubePosition
market_behind p (Call c) (a ∷ answers) = market_after p c a
market_behind p _ answers = p

-- What a question is answered: the range that a market permits, by what it then shows.
abbrev pub range_answered : CubePosition → RangeQuestion → List ℕ
range_answered p q = reply_text (range_reply (permitted_range q.side q.limit (cube_meaning.shows p)))

-- A line: what is answered at once, a question by the market as it is before the line, a call by the first of the answers, and
-- behind it the auction that ended at it.
abbrev pub whole_line : CubePosition → ℕ → Entry → List AnswerTold → List (Option ℕ) → List ℕ
whole_line p number (Replied r) answers ended = transcript_line number (reply_text r)
whole_line p number (Range q) answers ended = transcript_line number (range_answered p q)
whole_line p number (Call c) [] ended = []
whole_line p number (Call c) (a ∷ answers) ended = transcript_line number (answer_text a) ++ first_ended_text ended

-- All lines, from a market on.
abbrev pub whole_lines : CubePosition → List Line → List AnswerTold → List (Option ℕ) → List ℕ
whole_lines p [] answers ended = []
whole_lines p (l ∷ ls) answers ended =
    whole_line p l.number l.entry answers ended
    ++ whole_lines (market_behind p l.entry answers) ls (answers_behind l.entry answers) (answers_behind l.entry ended)

-- What is written so far, and the market that answers questions; and then with a line that is carried out in this room.
pub record WholeNotes : Type 0 where
  pub ends : Ends
  pub market : CubePosition
  pub text : List ℕ

abbrev pub whole_notes_after : CubeWorld → CubeRoom → Line → WholeNotes → WholeNotes
whole_notes_after w s l x = record x {
  market = market_behind x.market l.entry (answers_to w s (call_in l.entry));
  text = x.text ++ whole_line x.market l.number l.entry (answers_to w s (call_in l.entry)) (ended_to x.ends w s (call_in l.entry));
}

-- An auction that the room still held at the end of the script, with its number.
abbrev pub end_line : ClosedTold → List ℕ
end_line t = codes "end " ++ (decimal t.claim.auction ++ (codes ": " ++ (collected_text t.collection t.rows ++ codes "\n")))

abbrev pub end_lines : List ClosedTold → List ℕ
end_lines ts = flat_map end_line ts

-- Where auctions end at the calls of these lines, in the room of these terms.
abbrev pub ended_here : Ends → RoomTerms → List Line → List (Option ℕ)
ended_here e terms ls = ended_at e (session_moments (world_in terms) (at_first (start_in terms)) (calls_in ls))

-- The text is that of these lines, whose calls were carried out in the room of these terms, the questions answered by a market
-- that begins as the room's does; and behind them what is told of each auction when the room is closed.
pub record WholeTextOf (e : Ends) (terms : RoomTerms) (ls : List Line) (text : List ℕ) : Type 0 where
  pub carried_out : CarriedOut terms (calls_in ls)
  pub written : text ≡ whole_lines (cube_start (legs_of terms.legs)) ls carried_out.answers (ended_here e terms ls) ++ end_lines carried_out.at_end

-- Where there is no room, the answers are those that are given at once.
abbrev pub reply_line : ℕ → Entry → List ℕ
reply_line number (Replied r) = transcript_line number (reply_text r)
reply_line number _ = []

abbrev pub reply_lines : List Line → List ℕ
reply_lines ls = flat_map (λ l. reply_line l.number l.entry) ls

abbrev pub WholeTextIn : Ends → Option RoomTerms → List Line → List ℕ → Type 0
WholeTextIn e None ls text = text ≡ reply_lines ls
WholeTextIn e (Some terms) ls text = WholeTextOf e terms ls text

-- And no line is left out there: it has no call and no question.
abbrev pub is_at_once : Entry → Bool
is_at_once (Replied r) = true
is_at_once _ = false

abbrev pub NoneLeftOut : Option RoomTerms → List Line → Type 0
NoneLeftOut None ls = list_all (λ l. is_at_once l.entry) ls ≡ true
NoneLeftOut (Some terms) ls = Unit {0}

-- The text of a whole script: of its lines, in the room that is made of what it tells.
pub record WholeTranscript (e : Ends) (script text : List ℕ) : Type 0 where
  pub room : Option RoomTerms
  pub made : option_map room_values room ≡ room_of (room_in (settings_behind_lines no_settings 1 (lines script)))
  pub written : WholeTextIn e room (script_lines script) text
  pub none_left_out : NoneLeftOut room (script_lines script)
