-- The lines of a script that are not understood, each with its number and why.
use Rattle.std.specs.Prelude.{Bool, true, false, ℕ, List, [], ◌∷◌, ◌++◌, codes}
use Rattle.std.specs.Fmt.{decimal}
use Rattle.std.specs.List.{flat_map}
use Rattle.day.specs.Lines.{Line, Entry, Replied}
use Rattle.day.specs.declared.reading.LineAndReason.{LineAndReason}
use Rattle.day.specs.declared.reading.Misreading.{Misreading}
use Rattle.script.specs.Misread.{not_understood_text}
use Rattle.script.specs.Reply.{NotUnderstood}
use Rattle.script.specs.declared.transcript.not_understood.NotUnderstood.{NotUnderstood as Why}

abbrev pub misread_entry : ℕ → Entry → List (ℕ × Why)
misread_entry n (Replied (NotUnderstood e)) = (n, e) ∷ []
misread_entry n _ = []

abbrev pub misread_lines : List Line → List (ℕ × Why)
misread_lines ls = flat_map (λ l. misread_entry l.number l.entry) ls

abbrev pub is_none_misread : List (ℕ × Why) → Bool
is_none_misread [] = true
is_none_misread (m ∷ ms) = false

-- Of what is offered of such a line, its number and why.
abbrev pub misreading_value : Misreading → ℕ × Why
misreading_value m = (m.line, m.why)

-- line 12: a leg's number is expected, and something else stands there
-- Of the line it has the number and why it is not understood, and nothing else.
abbrev pub line_and_reason_text : LineAndReason → List ℕ
line_and_reason_text x = codes "line " ++ (decimal x.line ++ (codes ": " ++ not_understood_text x.why))
