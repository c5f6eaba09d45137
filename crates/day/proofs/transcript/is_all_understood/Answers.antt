-- What is read of each line in code is read of what is told of it.
use Rattle.std.proofs.Common.{rules, ◌∙◌, sym}
use Rattle.std.proofs.lemmas.Iterator.Search.{all_from_yields_List}
use Rattle.std.proofs.lemmas.Iterator.{YieldsList-from_slice}
use Rattle.std.proofs.lemmas.List.Folds.{list_all-map}
use Rattle.day.specs.Lines.{Line, line_value, entry_value, is_understood}
use Rattle.day.proofs.transcript.is_all_understood.Goals as goal

pub returns : goal.returns
returns c =
    all_from_yields_List (λ l. is_understood (entry_value l.entry)) _ _ c.all.result c.all.ensures.ran (YieldsList-from_slice c.args.lines.now cc) (λ x b q k. search rules)
    ∙ sym (list_all-map (λ (l : Line). is_understood l.entry) line_value c.args.lines.now)
