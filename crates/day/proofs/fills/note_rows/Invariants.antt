-- What is noted so far, with the rows to come, is what was noted before with all rows.
use Rattle.std.proofs.Common.{◌≡◌, ◌++◌, drop, map, Some}
use Rattle.allocation.specs.Cause.{cause_letter}
use Rattle.day.specs.Fills.{fill_value, fills_of}
use Rattle.day.proofs.fills.note_rows.Given as goal

abbrev pub invariant-loop-row : goal.invariant-loop-row
invariant-loop-row l =
    map fill_value l.fills.items ++ fills_of (Some l.fn.order) l.fn.auction (cause_letter l.fn.cause) (drop l.row-index l.fn.rows)
    ≡ map fill_value l.initial.fills.items ++ fills_of (Some l.fn.order) l.fn.auction (cause_letter l.fn.cause) l.fn.rows
