-- The words of a line.
use Rattle.std.specs.Prelude.{ℕ, Bool, true, false, List, [], ◌∷◌, ◌||◌, ◌==◌, if◌then◌else◌, filter}
use Rattle.std.specs.List.{before_first}

-- A space or a tab.
abbrev pub is_blank : ℕ → Bool
is_blank b = (b == 32) || (b == 9)

-- A `#` begins a comment.
abbrev pub is_comment : ℕ → Bool
is_comment b = b == 35

-- A byte in front of the first piece.
abbrev pub onto_first : ℕ → List (List ℕ) → List (List ℕ)
onto_first b [] = (b ∷ []) ∷ []
onto_first b (p ∷ ps) = (b ∷ p) ∷ ps

-- What stands between the bytes that pass a test: one piece more than there are such bytes, and any of them may be empty.
abbrev pub pieces : (ℕ → Bool) → List ℕ → List (List ℕ)
pieces separates [] = [] ∷ []
pieces separates (b ∷ bs) = if separates b then [] ∷ pieces separates bs else onto_first b (pieces separates bs)

abbrev pub has_bytes : List ℕ → Bool
has_bytes [] = false
has_bytes (b ∷ bs) = true

-- The words: what stands between blanks and is not empty.
abbrev pub words_in : List ℕ → List (List ℕ)
words_in bytes = filter has_bytes (pieces is_blank bytes)

-- The words of a line are those before its comment.
abbrev pub line_words : List ℕ → List (List ℕ)
line_words line = words_in (before_first is_comment line)
