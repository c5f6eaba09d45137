-- What a member may see of a transcript: the lines that answer looks, and its own responses, changes and withdrawals.
use Rattle.std.specs.Prelude.{◌≡◌, ℕ, Bool, cond, List, [], ◌∷◌, ◌++◌, codes, is_some, Option, Some, None}
use Rattle.std.specs.Option.{option_map}
use Rattle.std.specs.Fmt.{decimal}
use Rattle.std.specs.Str.Lines.{lines}
use Rattle.day.specs.Calls.{call_in, calls_in}
use Rattle.day.specs.Lines.{CubeCall, Line, Entry, Call, lines_from, settings_behind_lines, room_of}
use Rattle.day.specs.CarriedOut.{CarriedOut, CubeRoom, CubeWorld, answers_to}
use Rattle.script.specs.declared.setup.room_terms.RoomTerms.{RoomTerms}
use Rattle.script.specs.Setup.{no_settings, room_in, room_values}
use Rattle.script.specs.Answer.{answer_text}
use Rattle.market.specs.Cube.{CubeFaultTold}
use Rattle.script.specs.Told.{AnswerTold}
use Rattle.session.specs.Learning.{shown_of}
use Rattle.session.specs.Runs.{Accepted}

-- A line of a transcript: the number of the script's line, and what it is answered.
abbrev pub transcript_line : ℕ → List ℕ → List ℕ
transcript_line number text = decimal number ++ (codes ": " ++ (text ++ codes "\n"))

-- The law of what a member may learn shows it the answer to this call, whatever the answer.
abbrev pub is_for : ℕ → CubeCall → Bool
is_for member c = is_some (shown_of {F = CubeFaultTold} member c Accepted)

-- A call with its answer.
abbrev pub answered_line : ℕ → ℕ → CubeCall → AnswerTold → List ℕ
answered_line member number c a = cond (is_for member c) (transcript_line number (answer_text a)) []

-- A line, which is answered by the first of the answers if it is a call,
abbrev pub line_for : ℕ → ℕ → Entry → List AnswerTold → List ℕ
line_for member number (Call c) (a ∷ answers) = answered_line member number c a
line_for member number _ answers = []

-- and the answers behind it.
abbrev pub answers_behind : {A : Type 0} → Entry → List A → List A
answers_behind (Call c) (a ∷ answers) = answers
answers_behind _ answers = answers

-- All lines, with the answers to their calls.
abbrev pub text_for : ℕ → List Line → List AnswerTold → List ℕ
text_for member [] answers = []
text_for member (l ∷ ls) answers = line_for member l.number l.entry answers ++ text_for member ls (answers_behind l.entry answers)

-- What is written so far for a member, and then with a line that is carried out in this room.
pub record MemberNotes : Type 0 where
  pub member : ℕ
  pub text : List ℕ

abbrev pub member_notes_after : CubeWorld → CubeRoom → Line → MemberNotes → MemberNotes
member_notes_after w s l x = record x { text = x.text ++ line_for x.member l.number l.entry (answers_to w s (call_in l.entry)) }

-- The text is that of these lines, whose calls were carried out in the room of these terms: every law of a run holds of them,
-- and that of what a member may learn.
pub record TextFor (member : ℕ) (terms : RoomTerms) (lines : List Line) (text : List ℕ) : Type 0 where
  pub carried_out : CarriedOut terms (calls_in lines)
  pub written : text ≡ text_for member lines carried_out.answers

-- Where there is no room there are no calls, and nothing to be seen.
abbrev pub TextIn : ℕ → Option RoomTerms → List Line → List ℕ → Type 0
TextIn member None lines text = text ≡ []
TextIn member (Some terms) lines text = TextFor member terms lines text

-- The text for a member of a whole script: of its lines, in the room that is made of what it tells.
pub record TranscriptFor (member : ℕ) (script text : List ℕ) : Type 0 where
  pub room : Option RoomTerms
  pub made : option_map room_values room ≡ room_of (room_in (settings_behind_lines no_settings 1 (lines script)))
  pub written : TextIn member room (lines_from no_settings 1 (lines script)) text
