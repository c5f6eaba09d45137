-- Readers: what the words that are left say first, and the words behind that; or why they say nothing.
use Rattle.std.specs.Prelude.{ℕ, ◌-◌, ◌^◌, ℤ, Bool, false, min, nat_lt, List, [], ◌∷◌, cond, ◌==◌, Option, Some, None, Result, Ok, Err}
use Rattle.std.specs.Option.{option_map}
use Rattle.script.specs.Number.{number_in, price_in}
use Rattle.script.specs.declared.misread.Expected.{Expected}
use Rattle.script.specs.declared.misread.Misread.{Misread}
use Rattle.script.specs.declared.misread.Misread.TheVariants.{Missing, Unknown, Negative, TooLarge}

-- A word is its bytes.
abbrev pub Word : Type 0
Word = List ℕ

abbrev pub Reader : Type 0 → Type 0
Reader X = List Word → Result (X × List Word) Misread

-- What is read, with the words behind it; or why nothing is.
abbrev pub with_rest : {X : Type 0} → Result X Misread → List Word → Result (X × List Word) Misread
with_rest (Ok x) rest = Ok (x, rest)
with_rest (Err e) rest = Err e

-- The same, with what is read seen as another value.
abbrev pub read_as : {X Y : Type 0} → (X → Y) → Result X Misread → List Word → Result (Y × List Word) Misread
read_as view (Ok x) rest = Ok (view x, rest)
read_as view (Err e) rest = Err e

-- The second of two steps goes on with what the first read, and with the words behind it.
abbrev pub go_on : {X Y : Type 0} → Result (X × List Word) Misread → (X → Reader Y) → Result (Y × List Word) Misread
go_on (Ok x) next = next x.0 x.1
go_on (Err e) next = Err e

infixl 10 ◌>>=◌
abbrev pub ◌>>=◌ : {X Y : Type 0} → Reader X → (X → Reader Y) → Reader Y
(first >>= next) words = go_on (first words) next

-- Reads no more words.
abbrev pub give : {X : Type 0} → X → Reader X
give x words = Ok (x, words)

abbrev pub give_up : {X : Type 0} → Misread → Reader X
give_up e words = Err e

-- The next word, which is to be there.
abbrev pub a_word : Expected → Reader Word
a_word what [] = Err (Missing what)
a_word what (w ∷ ws) = Ok (w, ws)

-- What a word stands for, if it stands for anything.
abbrev pub known : {X : Type 0} → Expected → Option X → Result X Misread
known what (Some x) = Ok x
known what None = Err (Unknown what)

-- The next word, by what it stands for.
abbrev pub one_of : {X : Type 0} → (Word → Option X) → Expected → Reader X
one_of named what = do
  w ← a_word what
  with_rest (known what (named w))

abbrev pub has_minus : Word → Bool
has_minus [] = false
has_minus (b ∷ bs) = b == 45

-- A number with no minus; one above the most is taken as the most.
abbrev pub unsigned_number : ℕ → Expected → Word → Result ℕ Misread
unsigned_number most what w = cond (has_minus w) (Err (Negative what)) (known what (option_map (min most) (number_in w)))

abbrev pub number_up_to : ℕ → Expected → Reader ℕ
number_up_to most what = do
  w ← a_word what
  with_rest (unsigned_number most what w)

-- A number; one that so many bits do not hold is taken as the most that they hold.
abbrev pub a_number : ℕ → Expected → Reader ℕ
a_number bits what = number_up_to (2 ^ bits - 1) what

-- A number that has to be what is written: one that 32 bits do not hold is not understood.
abbrev pub in_32_bits : Expected → ℕ → Result ℕ Misread
in_32_bits what n = cond (nat_lt n (2 ^ 32)) (Ok n) (Err (TooLarge what))

abbrev pub exact_number : Expected → Reader ℕ
exact_number what = do
  n ← a_number 64 what
  with_rest (in_32_bits what n)

-- A number, or what is taken in its place where no word is left.
abbrev pub optional_number : ℕ → Expected → ℕ → Reader ℕ
optional_number bits what otherwise [] = Ok (otherwise, [])
optional_number bits what otherwise (w ∷ ws) = a_number bits what (w ∷ ws)

-- A price, with or without a minus.
abbrev pub a_price : Expected → Reader ℤ
a_price what = one_of price_in what
