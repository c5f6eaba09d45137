-- Lines that are read one by one say what all of them say.
use Rattle.std.proofs.Common.{◌≡◌, ◌++◌, ◌∙◌, ap, sym, refl, map, drop, ℕ, ◌+◌, ◌<◌, length, get_or, List, ◌∷◌, Result, Ok, Err}
use Rattle.std.proofs.lemmas.List.{append_assoc, at_drop_more}
use Rattle.std.specs.Option.{option_map}
use Rattle.std.specs.Result.{result_ok}
use Rattle.script.specs.declared.setup.room_terms.RoomTerms.{RoomTerms}
use Rattle.script.specs.declared.setup.wanting.Wanting.{Wanting}
use Rattle.script.specs.Setup.{Settings, RoomValues, room_values, room_result}
use Rattle.day.specs.Lines.{Line, entry_in, settings_behind_line, with_number, lines_from, settings_behind_lines, room_of}

-- One line more is read: it moves from those to come to those that were read.
one_more : (before after : List Line) (t u : Settings) (n : ℕ) (l : List ℕ) (ls : List (List ℕ))
    → after ≡ before ++ with_number n (entry_in t l)
    → u ≡ settings_behind_line t n l
    → after ++ lines_from u (n + 1) ls ≡ before ++ lines_from t n (l ∷ ls)
one_more before after t u n l ls more told =
    ap (λ x. x ++ lines_from u (n + 1) ls) more
    ∙ append_assoc before (with_number n (entry_in t l)) (lines_from u (n + 1) ls)
    ∙ ap (λ v. before ++ (with_number n (entry_in t l) ++ lines_from v (n + 1) ls)) told

-- The same of a list of lines and a place in it, however the lines are held.
pub one_read : {B : Type 0} (v : B → List ℕ) (xs : List B) (i : ℕ) (d : B) (before after : List Line) (t u : Settings)
    → i < length xs
    → after ≡ before ++ with_number (i + 1) (entry_in t (v (get_or xs i d)))
    → u ≡ settings_behind_line t (i + 1) (v (get_or xs i d))
    → after ++ lines_from u (i + 1 + 1) (map v (drop (i + 1) xs)) ≡ before ++ lines_from t (i + 1) (map v (drop i xs))
one_read v xs i d before after t u inside more told =
    one_more before after t u (i + 1) (v (get_or xs i d)) (map v (drop (i + 1) xs)) more told
    ∙ sym (at_drop_more (λ left. before ++ lines_from t (i + 1) (map v left)) xs i d inside)

-- And what is told behind them.
pub one_told : {B : Type 0} (v : B → List ℕ) (xs : List B) (i : ℕ) (d : B) (t u : Settings)
    → i < length xs
    → u ≡ settings_behind_line t (i + 1) (v (get_or xs i d))
    → settings_behind_lines u (i + 1 + 1) (map v (drop (i + 1) xs)) ≡ settings_behind_lines t (i + 1) (map v (drop i xs))
one_told v xs i d t u inside told =
    ap (λ w. settings_behind_lines w (i + 1 + 1) (map v (drop (i + 1) xs))) told
    ∙ sym (at_drop_more (λ left. settings_behind_lines t (i + 1) (map v left)) xs i d inside)

-- A room that is made is the room of what was told.
room_made : (r : Result RoomTerms Wanting) → option_map room_values (result_ok r) ≡ room_of (room_result r)
room_made (Ok terms) = refl
room_made (Err e) = refl

pub room_values_made : (r : Result RoomTerms Wanting) (x : Result RoomValues Wanting)
    → room_result r ≡ x → option_map room_values (result_ok r) ≡ room_of x
room_values_made r x same = room_made r ∙ ap room_of same
