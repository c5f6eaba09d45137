-- The first word of a line, and the words behind it. The lemmas are of any test that separates words.
use Rattle.std.proofs.Common.{arith, ◌≡◌, ℕ, Bool, true, false, List, [], ◌∷◌, length, take, drop, refl, ap, ◌∙◌, filter, inl, inr, ◌==◌}
use Rattle.std.proofs.Math.Numerals.{one-add}
use Rattle.std.proofs.lemmas.Bool.{cases_Bool}
use Rattle.std.proofs.lemmas.List.{drop_all}
use Rattle.std.specs.List.{prefix_len, position_or_len}
use Rattle.script.specs.Words.{onto_first, pieces, has_bytes}

-- What stands in front and separates makes no word.
pub words_past : (p : ℕ → Bool) (bs : List ℕ) → filter has_bytes (pieces p (drop (prefix_len p bs) bs)) ≡ filter has_bytes (pieces p bs)
words_past p [] = refl
words_past p (b ∷ bs) = elim (cases_Bool (p b)) [ inl h ↦ rw (h, one-add) (words_past p bs) | inr h ↦ rw h (rw h refl) ]

-- The pieces behind the first one.
abbrev pub behind : (ℕ → Bool) → List ℕ → List (List ℕ)
behind p [] = []
behind p (b ∷ bs) = pieces p bs

-- The first piece reaches up to the first byte that separates.
pub first_piece : (p : ℕ → Bool) (bs : List ℕ) → pieces p bs ≡ take (position_or_len p bs) bs ∷ behind p (drop (position_or_len p bs) bs)
first_piece p [] = refl
first_piece p (b ∷ bs) = elim (cases_Bool (p b)) [ inl h ↦ rw h refl | inr h ↦ rw (h, one-add) (ap (onto_first b) (first_piece p bs)) ]

-- The words from there on are those of the pieces behind it.
pub words_behind : (p : ℕ → Bool) (bs : List ℕ) → filter has_bytes (pieces p (drop (position_or_len p bs) bs)) ≡ filter has_bytes (behind p (drop (position_or_len p bs) bs))
words_behind p [] = refl
words_behind p (b ∷ bs) = elim (cases_Bool (p b)) [ inl h ↦ rw h (rw h refl) | inr h ↦ rw (h, one-add) (words_behind p bs) ]

-- Up to the first byte that separates there is a word, if there is anything; the words behind it follow.
pub first_word : (p : ℕ → Bool) (bs : List ℕ) → has_bytes (take (position_or_len p bs) bs) ≡ true →
    filter has_bytes (pieces p bs) ≡ take (position_or_len p bs) bs ∷ filter has_bytes (pieces p (drop (position_or_len p bs) bs))
first_word p bs h = rw (first_piece p bs, h, words_behind p bs) refl

-- Where nothing stands up to the first byte that separates, and that is not in front, there is nothing.
pub nothing_left : (p : ℕ → Bool) (bs : List ℕ) → has_bytes (take (position_or_len p (drop (prefix_len p bs) bs)) (drop (prefix_len p bs) bs)) ≡ false → drop (prefix_len p bs) bs ≡ []
nothing_left p [] h = refl
nothing_left p (b ∷ bs) h = elim (cases_Bool (p b)) [ inl t ↦ rw (t, one-add) (nothing_left p bs (rw (t, one-add) at h)) | inr t ↦ let k = rw (t, t, one-add) at h in cc ]

-- A text with bytes has a length.
pub bytes_from_length : (bs : List ℕ) → (length bs == 0) ≡ false → has_bytes bs ≡ true
bytes_from_length [] h = cc
bytes_from_length (b ∷ bs) h = refl

pub no_bytes_from_length : (bs : List ℕ) → (length bs == 0) ≡ true → has_bytes bs ≡ false
no_bytes_from_length [] h = refl
no_bytes_from_length (b ∷ bs) h = absurd (grind arith)

-- What stands behind the separating bytes in front, up to the next one, is the first word, if it is not empty.
pub takes_word : (p : ℕ → Bool) (rest bytes word after : List ℕ) (n : ℕ) → bytes ≡ drop (prefix_len p rest) rest → n ≡ position_or_len p bytes → word ≡ take n bytes → after ≡ drop n bytes
    → (length word == 0) ≡ false → filter has_bytes (pieces p rest) ≡ word ∷ filter has_bytes (pieces p after)
takes_word p rest bytes word after n b m w a t =
    let past : filter has_bytes (pieces p (drop (prefix_len p rest) rest)) ≡ filter has_bytes (pieces p rest) = words_past p rest in
    let some : has_bytes (take (position_or_len p bytes) bytes) ≡ true = rw (← m) (rw (← w) (bytes_from_length word t)) in
    let first = first_word p bytes some in
    cc

-- If it is empty, there is no word.
pub takes_none : (p : ℕ → Bool) (rest bytes word after : List ℕ) (n : ℕ) → bytes ≡ drop (prefix_len p rest) rest → n ≡ position_or_len p bytes → word ≡ take n bytes → after ≡ drop n bytes
    → (length word == 0) ≡ true → (filter has_bytes (pieces p rest) ≡ []) × (filter has_bytes (pieces p after) ≡ [])
takes_none p rest bytes word after n b m w a t =
    let none : has_bytes (take (position_or_len p bytes) bytes) ≡ false = rw (← m) (rw (← w) (no_bytes_from_length word t)) in
    let gone : bytes ≡ [] = b ∙ nothing_left p rest (rw (← b) none) in
    let past : filter has_bytes (pieces p (drop (prefix_len p rest) rest)) ≡ filter has_bytes (pieces p rest) = words_past p rest in
    let at_end : filter has_bytes (pieces p []) ≡ [] = refl in
    let behind : after ≡ [] = a ∙ rw gone (drop_all n [] (omega arith)) in
    (cc, cc)
