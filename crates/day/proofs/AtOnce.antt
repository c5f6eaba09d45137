-- Where no room is made of what a script tells, each of its lines is answered at once: a room that could be made for a call or
-- a question would be there at the end.
use Rattle.std.proofs.Common.{◌≡◌, ◌++◌, ◌∙◌, ap, refl, ℕ, ◌+◌, Bool, true, false, cond, List, [], ◌∷◌, Result, Ok, Err, Option, Some, None}
use Rattle.std.specs.Prelude.{is_ok}
use Rattle.std.specs.List.{list_all}
use Rattle.std.specs.Option.{option_map}
use Rattle.std.specs.Str.Lines.{lines}
use Rattle.script.specs.declared.misread.Misread.{Misread}
use Rattle.script.specs.declared.setup.room_terms.RoomTerms.{RoomTerms}
use Rattle.script.specs.declared.setup.wanting.Wanting.{Wanting}
use Rattle.script.specs.declared.statement.Statement.{Statement}
use Rattle.script.specs.declared.statement.Statement.TheVariants.{Setting, Call, Range}
use Rattle.script.specs.Grammar.{statement_in}
use Rattle.script.specs.Setup.{Settings, RoomValues, no_settings, answer_by, first_line, room_in, room_number, room_values}
use Rattle.day.specs.Lines.{Line, Entry, Call as EntryCall, Range as EntryRange, in_room, entry_where, settings_where, with_number, lines_from, settings_behind_lines, room_of, script_lines}
use Rattle.day.specs.Whole.{is_at_once, NoneLeftOut}

-- A room that is made stays as it is made.
abbrev Made : Settings → RoomValues → Type 0
Made t r = (room_in t ≡ Ok r) × (t.made ≡ true)

after_call : (t : Settings) (r : RoomValues) (first : Option ℕ) (b : Bool) → Made t r → Made (cond b (record t { made = true }) (record t { without_room = first })) r
after_call t r first true made = (made.0, refl)
after_call t r first false made = (made.0, made.1)

kept : (t u : Settings) (r : RoomValues) (b : Bool) → b ≡ true → Made t r → Made (cond b t u) r
kept t u r true same made = made
kept t u r false same made = cc

after_line : (t : Settings) (r : RoomValues) (n : ℕ) (x : Result (Option Statement) Misread) → Made t r → Made (settings_where t n x) r
after_line t r n (Ok None) made = made
after_line t r n (Err e) made = made
after_line t r n (Ok (Some (Setting s))) made = kept t _ r t.made made.1 made
after_line t r n (Ok (Some (Call c))) made = after_call t r _ (is_ok (room_in t)) made
after_line t r n (Ok (Some (Range q))) made = after_call t r _ (is_ok (room_in t)) made

at_end : (t : Settings) (r : RoomValues) (n : ℕ) (ls : List (List ℕ)) → Made t r → room_in (settings_behind_lines t n ls) ≡ Ok r
at_end t r n [] made = made.0
at_end t r n (l ∷ ls) made = at_end (settings_where t n (statement_in (room_number t) l)) r (n + 1) ls (after_line t r n (statement_in (room_number t) l) made)

abbrev at_once : List Line → Bool
at_once ls = list_all (λ l. is_at_once l.entry) ls

abbrev NoneAtEnd : Settings → ℕ → List (List ℕ) → Type 0
NoneAtEnd t n ls = None ≡ room_of (room_in (settings_behind_lines t n ls))

-- What is to be shown of lines, whatever is set before them.
abbrev AllAtOnce : List (List ℕ) → Type 0
AllAtOnce ls = (t : Settings) (n : ℕ) → NoneAtEnd t n ls → at_once (lines_from t n ls) ≡ true

-- What is set behind a line that needs the room, which is there or is not.
abbrev behind_call : Settings → ℕ → Result RoomValues Wanting → Settings
behind_call t n x = cond (is_ok x) (record t { made = true }) (record t { without_room = first_line t.without_room n })

-- A call or a question.
in_no_room : (t : Settings) (n : ℕ) (s : Entry) (ls : List (List ℕ)) (x : Result RoomValues Wanting) (first : Option ℕ) → room_in t ≡ x → AllAtOnce ls
    → NoneAtEnd (behind_call t n x) (n + 1) ls
    → at_once (with_number n (Some (in_room (answer_by x first) s)) ++ lines_from (behind_call t n x) (n + 1) ls) ≡ true
in_no_room t n s ls (Ok r) first same rest none =
    let there : None ≡ Some r = none ∙ ap room_of (at_end (record t { made = true }) r (n + 1) ls (same, refl)) in
    cc
in_no_room t n s ls (Err e) None same rest none = rest _ (n + 1) none
in_no_room t n s ls (Err e) (Some first) same rest none = rest _ (n + 1) none

one_more : (t : Settings) (n : ℕ) (ls : List (List ℕ)) (x : Result (Option Statement) Misread) → AllAtOnce ls
    → NoneAtEnd (settings_where t n x) (n + 1) ls
    → at_once (with_number n (entry_where t x) ++ lines_from (settings_where t n x) (n + 1) ls) ≡ true
one_more t n ls (Ok None) rest none = rest t (n + 1) none
one_more t n ls (Err e) rest none = rest t (n + 1) none
one_more t n ls (Ok (Some (Setting s))) rest none = rest _ (n + 1) none
one_more t n ls (Ok (Some (Call c))) rest none = in_no_room t n (EntryCall c) ls (room_in t) t.without_room refl rest none
one_more t n ls (Ok (Some (Range q))) rest none = in_no_room t n (EntryRange q) ls (room_in t) t.without_room refl rest none

all_at_once : (ls : List (List ℕ)) → AllAtOnce ls
all_at_once [] t n none = refl
all_at_once (l ∷ ls) t n none = one_more t n ls (statement_in (room_number t) l) (all_at_once ls) none

pub none_left_out : (script : List ℕ) (room : Option RoomTerms)
    → option_map room_values room ≡ room_of (room_in (settings_behind_lines no_settings 1 (lines script)))
    → NoneLeftOut room (script_lines script)
none_left_out script None made = all_at_once (lines script) no_settings 1 made
none_left_out script (Some terms) made = tt
