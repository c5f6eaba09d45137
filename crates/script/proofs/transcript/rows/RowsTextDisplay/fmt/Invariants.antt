-- What is written so far is the text of the rows so far.
use Rattle.std.proofs.Common.{take}
use Rattle.std.specs.Fmt.{HasWritten, IsPlainFormatter}
use Rattle.script.specs.Answer.{rows_text}
use Rattle.script.proofs.transcript.rows.RowsTextDisplay.fmt.Given as goal

abbrev pub invariant-loop-row : goal.invariant-loop-row
invariant-loop-row g l =
    IsPlainFormatter l.initial.f → HasWritten g.W.Write.write_str_gives l.initial.f (rows_text (take l.row-index l.row-items)) l.f
