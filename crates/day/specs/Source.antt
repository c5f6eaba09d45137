-- The text of a script's bytes.
use Rattle.std.specs.Prelude.{ℕ, Bool, true, false, cond, ◌&&◌, ◌||◌, ◌==◌, List, [], ◌∷◌}
use Rattle.std.specs.Str.Lossy.{utf8_lossy}

-- FF FE or FE FF stand in front of a text in UTF-16.
abbrev pub is_utf16 : List ℕ → Bool
is_utf16 (a ∷ b ∷ bs) = (a == 255 && b == 254) || (a == 254 && b == 255)
is_utf16 _ = false

-- EF BB BF may stand in front of a text in UTF-8, and are no part of it.
abbrev pub past_mark : List ℕ → List ℕ
past_mark (a ∷ b ∷ c ∷ bs) = cond (a == 239 && (b == 187 && c == 191)) bs (a ∷ b ∷ c ∷ bs)
past_mark bs = bs

-- Lines end with a line feed, a carriage return, or both: each becomes one line feed. What stands before is a carriage return
-- or is not.
abbrev pub feeds_behind : Bool → List ℕ → List ℕ
feeds_behind returned [] = []
feeds_behind returned (b ∷ bs) =
    cond (b == 13) (10 ∷ feeds_behind true bs) (cond (returned && b == 10) (feeds_behind false bs) (b ∷ feeds_behind false bs))

-- Bytes that are no text become U+FFFD.
abbrev pub text_in : List ℕ → List ℕ
text_in bytes = utf8_lossy (feeds_behind false (past_mark bytes))
