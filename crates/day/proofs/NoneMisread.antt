-- No line is misread exactly if all are understood.
use Rattle.std.proofs.Common.{◌≡◌, refl, ℕ, List, [], ◌∷◌, ◌++◌}
use Rattle.day.specs.Lines.{Line, Entry, Replied, Call, Range, is_all_understood}
use Rattle.day.specs.Reading.{is_none_misread, misread_entry, misread_lines}
use Rattle.script.specs.Reply.{Answered, SettingRefused, Permitted, RangeRefused, NotUnderstood}

one_more : (n : ℕ) (x : Entry) (ls : List Line) → is_none_misread (misread_lines ls) ≡ is_all_understood ls
    → is_none_misread (misread_entry n x ++ misread_lines ls) ≡ is_all_understood (record { number = n; entry = x } ∷ ls)
one_more n (Replied (NotUnderstood e)) ls rest = refl
one_more n (Replied (Answered a)) ls rest = rest
one_more n (Replied (SettingRefused k)) ls rest = rest
one_more n (Replied (Permitted r)) ls rest = rest
one_more n (Replied (RangeRefused k)) ls rest = rest
one_more n (Call c) ls rest = rest
one_more n (Range q) ls rest = rest

pub none_misread : (ls : List Line) → is_none_misread (misread_lines ls) ≡ is_all_understood ls
none_misread [] = refl
none_misread (l ∷ ls) = one_more l.number l.entry ls (none_misread ls)
