-- What is written so far, with what the lines to come say, is what all of them say.
use Rattle.std.proofs.Common.{◌≡◌, ◌++◌, drop, map, string_bytes}
use Rattle.day.specs.Lines.{line_value}
use Rattle.day.specs.Whole.{reply_lines}
use Rattle.day.proofs.whole.replies_text.Given as goal

abbrev pub invariant-loop-line : goal.invariant-loop-line
invariant-loop-line l = string_bytes l.text ++ reply_lines (map line_value (drop l.line-index l.fn.lines)) ≡ reply_lines (map line_value l.fn.lines)
