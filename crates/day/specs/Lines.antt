-- The lines of a script, and what each says, as it is told.
use Rattle.market.specs.Cube.{CubeTick}
use Rattle.std.specs.Prelude.{Bool, true, false, ℕ, ◌+◌, List, [], ◌∷◌, ◌++◌, Option, Some, None, Result, Ok, Err}
use Rattle.std.specs.List.{list_all}
use Rattle.std.specs.Str.Lines.{lines}
use Rattle.session.specs.declared.call.Call.{Call as RoomCall}
use Rattle.day.specs.declared.lines.Line.{Line as CodeLine}
use Rattle.day.specs.declared.lines.Entry.{Entry as CodeEntry}
use Rattle.day.specs.declared.lines.Entry.TheVariants as code
use Rattle.script.specs.Grammar.{statement_in}
use Rattle.script.specs.Reply.{Reply, NotUnderstood, reply_told, setting_reply}
use Rattle.script.specs.Setup.{no_settings, Settings, RoomValues, setting_answer, settings_after, room_answer, room_number, settings_after_call}
use Rattle.script.specs.declared.misread.Misread.{Misread}
use Rattle.script.specs.declared.setup.wanting.NoRoom.{NoRoom}
use Rattle.script.specs.declared.setup.wanting.Wanting.{Wanting}
use Rattle.script.specs.declared.statement.RangeQuestion.{RangeQuestion}
use Rattle.script.specs.declared.statement.Statement.{Statement}
use Rattle.script.specs.declared.statement.Statement.TheVariants as statement
use Rattle.script.specs.declared.transcript.not_understood.NotUnderstood.TheVariants as why

-- A call on a room of the CUBE market.
abbrev pub CubeCall : Type 0
CubeCall = RoomCall CubeTick

-- What a line says: a reply that needs no room, a call, or a question for a range.
pub data Entry : Type 0 where
  Replied : Reply → Entry
  Call : CubeCall → Entry
  Range : RangeQuestion → Entry

-- What is told of what a line says in code.
abbrev pub entry_value : CodeEntry → Entry
entry_value (code.Replied r) = Replied (reply_told r)
entry_value (code.Call c) = Call c
entry_value (code.Range q) = Range q

-- A line that is not passed over, with its number, counted from 1.
pub record Line : Type 0 where
  pub number : ℕ
  pub entry : Entry

abbrev pub line_value : CodeLine → Line
line_value l = record { number = l.number; entry = entry_value l.entry }

-- A call or a question, if there is a room for it; else why there is none.
abbrev pub in_room : Result (Unit {0}) NoRoom → Entry → Entry
in_room (Ok x) s = s
in_room (Err e) s = Replied (NotUnderstood (why.NoRoom e))

-- What a statement says, by what is set before it. A setting is answered at once.
abbrev pub entry_of : Settings → Statement → Entry
entry_of t (statement.Setting x) = Replied (setting_reply (setting_answer t x))
entry_of t (statement.Call c) = in_room (room_answer t) (Call c)
entry_of t (statement.Range q) = in_room (room_answer t) (Range q)

-- What is set behind it, on the line of this number. A call or a question makes the room, if nothing is wanting.
abbrev pub settings_behind : Settings → ℕ → Statement → Settings
settings_behind t n (statement.Setting x) = settings_after t x
settings_behind t n (statement.Call c) = settings_after_call t n
settings_behind t n (statement.Range q) = settings_after_call t n

-- What a line says, if it is not passed over.
abbrev pub entry_where : Settings → Result (Option Statement) Misread → Option Entry
entry_where t (Ok None) = None
entry_where t (Ok (Some x)) = Some (entry_of t x)
entry_where t (Err e) = Some (Replied (NotUnderstood (why.Misread e)))

abbrev pub entry_in : Settings → List ℕ → Option Entry
entry_in t line = entry_where t (statement_in (room_number t) line)

-- A line that is no statement leaves what was set.
abbrev pub settings_where : Settings → ℕ → Result (Option Statement) Misread → Settings
settings_where t n (Ok None) = t
settings_where t n (Ok (Some x)) = settings_behind t n x
settings_where t n (Err e) = t

abbrev pub settings_behind_line : Settings → ℕ → List ℕ → Settings
settings_behind_line t n line = settings_where t n (statement_in (room_number t) line)

-- A line with its number, if it is not passed over.
abbrev pub with_number : ℕ → Option Entry → List Line
with_number n None = []
with_number n (Some s) = record { number = n; entry = s } ∷ []

-- What these lines say, the first of which has this number; passed over or not, each line counts.
abbrev pub lines_from : Settings → ℕ → List (List ℕ) → List Line
lines_from t n [] = []
lines_from t n (l ∷ ls) = with_number n (entry_in t l) ++ lines_from (settings_behind_line t n l) (n + 1) ls

-- What is set behind them.
abbrev pub settings_behind_lines : Settings → ℕ → List (List ℕ) → Settings
settings_behind_lines t n [] = t
settings_behind_lines t n (l ∷ ls) = settings_behind_lines (settings_behind_line t n l) (n + 1) ls

-- The room of what is set, if nothing is wanting.
abbrev pub room_of : Result RoomValues Wanting → Option RoomValues
room_of (Ok room) = Some room
room_of (Err e) = None

-- A line is understood if it is answered otherwise than by why it is not.
abbrev pub is_understood : Entry → Bool
is_understood (Replied (NotUnderstood e)) = false
is_understood _ = true

-- The lines of a script, all of them.
abbrev pub script_lines : List ℕ → List Line
script_lines script = lines_from no_settings 1 (lines script)

abbrev pub is_all_understood : List Line → Bool
is_all_understood ls = list_all (λ l. is_understood l.entry) ls
