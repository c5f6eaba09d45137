-- What is noted so far, with what the lines to come are noted by, is what all of them are.
use Rattle.std.proofs.Common.{◌≡◌, ◌++◌, drop, map}
use Rattle.day.specs.Lines.{line_value}
use Rattle.day.specs.Reading.{misread_lines, misreading_value}
use Rattle.day.proofs.reading.Reading.misreadings_in.Given as goal

abbrev pub invariant-loop-line : goal.invariant-loop-line
invariant-loop-line l = map misreading_value l.misreadings.items ++ misread_lines (map line_value (drop l.line-index l.fn.lines)) ≡ misread_lines (map line_value l.fn.lines)
