-- The calls of a script, in the order of its lines.
use Rattle.std.specs.Prelude.{List, [], ◌∷◌, ◌++◌}
use Rattle.day.specs.Lines.{CubeCall, Line, Entry, Call}

abbrev pub call_in : Entry → List CubeCall
call_in (Call c) = c ∷ []
call_in _ = []

abbrev pub calls_in : List Line → List CubeCall
calls_in [] = []
calls_in (l ∷ ls) = call_in l.entry ++ calls_in ls
