-- Words that are written with a blank between two are the words of the line.
use Rattle.std.proofs.Common.{◌≡◌, ℕ, Bool, true, false, ◌&&◌, not, List, [], ◌∷◌, ◌++◌, refl, ap}
use Rattle.std.proofs.Math.Numerals.{one-add}
use Rattle.std.specs.List.{list_all, before_first}
use Rattle.script.specs.Readers.{Word}
use Rattle.script.specs.Words.{is_blank, is_comment, onto_first, pieces, has_bytes, words_in, line_words}
use Rattle.script.specs.Write.{with_blanks}

-- A word has a byte at least, and no blank and no comment.
abbrev pub plain : Word → Bool
plain w = has_bytes w && (list_all (λ b. not (is_blank b)) w && list_all (λ b. not (is_comment b)) w)

pub and_true : {a b : Bool} → a ≡ true → b ≡ true → (a && b) ≡ true
and_true {a} {b} p q = rw (p, q) refl

left_true : (a b : Bool) → (a && b) ≡ true → a ≡ true
left_true true b h = refl
left_true false b h = h

right_true : (a b : Bool) → (a && b) ≡ true → b ≡ true
right_true true b h = h
right_true false b h = cc

not_true : (a : Bool) → not a ≡ true → a ≡ false
not_true true h = cc
not_true false h = refl

-- A word is the first piece, up to the blank behind it.
piece_of_word : (p : ℕ → Bool) (w rest : List ℕ) (s : ℕ) → list_all (λ b. not (p b)) w ≡ true → p s ≡ true → pieces p (w ++ (s ∷ rest)) ≡ w ∷ pieces p rest
piece_of_word p [] rest s h t = rw t refl
piece_of_word p (b ∷ w) rest s h t =
    rw (not_true (p b) (left_true (not (p b)) (list_all (λ b. not (p b)) w) h)) (ap (onto_first b) (piece_of_word p w rest s (right_true (not (p b)) (list_all (λ b. not (p b)) w) h) t))

-- The last word is the last piece.
piece_of_last : (p : ℕ → Bool) (w : List ℕ) → list_all (λ b. not (p b)) w ≡ true → pieces p w ≡ w ∷ []
piece_of_last p [] h = refl
piece_of_last p (b ∷ w) h =
    rw (not_true (p b) (left_true (not (p b)) (list_all (λ b. not (p b)) w) h)) (ap (onto_first b) (piece_of_last p w (right_true (not (p b)) (list_all (λ b. not (p b)) w) h)))

-- Where no byte passes, nothing is cut off.
nothing_cut : (p : ℕ → Bool) (bs : List ℕ) → list_all (λ b. not (p b)) bs ≡ true → before_first p bs ≡ bs
nothing_cut p [] h = refl
nothing_cut p (b ∷ bs) h =
    rw (left_true (not (p b)) (list_all (λ b. not (p b)) bs) h, one-add) (ap (λ r. b ∷ r) (nothing_cut p bs (right_true (not (p b)) (list_all (λ b. not (p b)) bs) h)))

all_of_append : (q : ℕ → Bool) (xs ys : List ℕ) → list_all q xs ≡ true → list_all q ys ≡ true → list_all q (xs ++ ys) ≡ true
all_of_append q [] ys h k = k
all_of_append q (x ∷ xs) ys h k = and_true (left_true (q x) (list_all q xs) h) (all_of_append q xs ys (right_true (q x) (list_all q xs) h) k)

has : (w : Word) → plain w ≡ true → has_bytes w ≡ true
has w h = left_true (has_bytes w) (list_all (λ b. not (is_blank b)) w && list_all (λ b. not (is_comment b)) w) h

no_blank : (w : Word) → plain w ≡ true → list_all (λ b. not (is_blank b)) w ≡ true
no_blank w h = left_true (list_all (λ b. not (is_blank b)) w) (list_all (λ b. not (is_comment b)) w) (right_true (has_bytes w) (list_all (λ b. not (is_blank b)) w && list_all (λ b. not (is_comment b)) w) h)

no_comment : (w : Word) → plain w ≡ true → list_all (λ b. not (is_comment b)) w ≡ true
no_comment w h = right_true (list_all (λ b. not (is_blank b)) w) (list_all (λ b. not (is_comment b)) w) (right_true (has_bytes w) (list_all (λ b. not (is_blank b)) w && list_all (λ b. not (is_comment b)) w) h)

spaced_has_no_comment : (ws : List Word) → list_all plain ws ≡ true → list_all (λ b. not (is_comment b)) (with_blanks ws) ≡ true
spaced_has_no_comment [] h = refl
spaced_has_no_comment (w ∷ []) h = no_comment w (left_true (plain w) true h)
spaced_has_no_comment (w ∷ v ∷ ws) h =
    all_of_append (λ b. not (is_comment b)) w (32 ∷ with_blanks (v ∷ ws)) (no_comment w (left_true (plain w) (list_all plain (v ∷ ws)) h))
    (spaced_has_no_comment (v ∷ ws) (right_true (plain w) (list_all plain (v ∷ ws)) h))

words_of_spaced : (ws : List Word) → list_all plain ws ≡ true → words_in (with_blanks ws) ≡ ws
words_of_spaced [] h = refl
words_of_spaced (w ∷ []) h =
    let p : plain w ≡ true = left_true (plain w) true h in
    rw (piece_of_last is_blank w (no_blank w p), has w p) refl
words_of_spaced (w ∷ v ∷ ws) h =
    let p : plain w ≡ true = left_true (plain w) (list_all plain (v ∷ ws)) h in
    rw (piece_of_word is_blank w (with_blanks (v ∷ ws)) 32 (no_blank w p) refl, has w p) (ap (λ r. w ∷ r) (words_of_spaced (v ∷ ws) (right_true (plain w) (list_all plain (v ∷ ws)) h)))

-- The words of the line are the words that were written.
pub line_words-with_blanks : (ws : List Word) → list_all plain ws ≡ true → line_words (with_blanks ws) ≡ ws
line_words-with_blanks ws h = rw (nothing_cut is_comment (with_blanks ws) (spaced_has_no_comment ws h)) (words_of_spaced ws h)
