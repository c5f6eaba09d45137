-- The numbers of all refusals that a script can be answered.
use Rattle.std.specs.Prelude.{ℕ, Bool, List, [], ◌∷◌, ◌==◌}
use Rattle.std.specs.List.{list_any}

-- Of what is handed in 1 to 6, of settings 8 to 10, of openings 12 to 17, of responses 21 to 27, of ticks 31, of collectings
-- 41 and 42.
abbrev pub refusal_numbers : List ℕ
refusal_numbers = 1 ∷ 2 ∷ 3 ∷ 4 ∷ 5 ∷ 6 ∷ 8 ∷ 9 ∷ 10 ∷ 12 ∷ 13 ∷ 14 ∷ 15 ∷ 16 ∷ 17 ∷ 21 ∷ 22 ∷ 23 ∷ 24 ∷ 25 ∷ 26 ∷ 27 ∷ 31 ∷ 41 ∷ 42 ∷ []

abbrev pub is_refusal_number : ℕ → Bool
is_refusal_number n = list_any (λ m. n == m) refusal_numbers
