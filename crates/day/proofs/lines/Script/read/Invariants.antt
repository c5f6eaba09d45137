-- What the lines that were read say, with what those say that are still to be read, is what all of them say.
use Rattle.std.proofs.Common.{◌≡◌, ◌++◌, map, drop, ◌+◌}
use Rattle.std.specs.Str.Lines.{lines}
use Rattle.script.specs.Setup.{settings_of, no_settings}
use Rattle.day.specs.Lines.{line_value, lines_from, settings_behind_lines}
use Rattle.day.proofs.lines.Script.read.Given as goal

abbrev pub invariant-loop-before : goal.invariant-loop-before
invariant-loop-before l =
    let rest = map (λ x. x.now) (drop l.before l.line-items) in
    let all = lines l.fn.text in
    (map line_value l.lines.items ++ lines_from (settings_of l.setup) (l.before + 1) rest ≡ lines_from no_settings 1 all)
    × (settings_behind_lines (settings_of l.setup) (l.before + 1) rest ≡ settings_behind_lines no_settings 1 all)
