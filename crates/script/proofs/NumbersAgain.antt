-- Numbers and prices that are written in digits are plain words, and read again.
use Rattle.std.proofs.Common.{arith, ◌≡◌, ℕ, ◌-◌, ◌<◌, ◌≤◌, ◌^◌, min, Bool, true, false, not, List, [], ◌∷◌, length, ℤ, pos, negsuc, Ok, Some, refl, suc}
use Rattle.std.proofs.lemmas.Bool.Decides.{nat_tests}
use Rattle.std.proofs.lemmas.Fmt.{decimal_is_IsNumeral, digits_decimal, digits_value-decimal}
use Rattle.std.proofs.lemmas.Str.Parse.{IsNumeralModel, numerals_by_value, tells_all_ascii_digits, digit_from_value}
use Rattle.std.specs.Fmt.{decimal, signed_decimal}
use Rattle.std.specs.Int.{w64}
use Rattle.std.specs.List.{list_all}
use Rattle.std.specs.Prelude.{FitsSigned, codes, nat_lt}
use Rattle.std.specs.Option.{option_map}
use Rattle.std.specs.Str.{all_ascii_digits, bytes_eq}
use Rattle.std.specs.Str.Parse.{AllDigits, digits_value}
use Rattle.script.proofs.Spaced.{plain, and_true}
use Rattle.script.specs.declared.misread.Expected.{Expected}
use Rattle.script.specs.Number.{number_in, signed_in, price_in}
use Rattle.script.specs.Readers.{Word, has_minus, a_number, exact_number, a_price}
use Rattle.script.specs.Words.{is_blank, is_comment, has_bytes}

digits_model : IsNumeralModel (λ ds. all_ascii_digits ds ≡ true) (digits_value 10)
digits_model = numerals_by_value _ tells_all_ascii_digits

has_digit : (ds : List ℕ) → 0 < length ds → has_bytes ds ≡ true
has_digit [] h = absurd (omega arith)
has_digit (d ∷ ds) h = refl

no_minus : (ds : List ℕ) → all_ascii_digits ds ≡ true → has_minus ds ≡ false
no_minus [] h = refl
no_minus (d ∷ ds) h = grind (arith, nat_tests)

digits_hold : (q : ℕ → Bool) → ((b : ℕ) → 48 ≤ b → b ≤ 57 → q b ≡ true) → (ds : List ℕ) → AllDigits 10 ds → list_all q ds ≡ true
digits_hold q each [] h = refl
digits_hold q each (d ∷ ds) h =
    let range = digit_from_value d h.0 in
    and_true (each d range.0 range.1) (digits_hold q each ds h.1)

-- Digits are a plain word.
pub plain_decimal : (n : ℕ) → n < 2 ^ 64 → plain (decimal n) ≡ true
plain_decimal n h =
    let numeral = (decimal_is_IsNumeral n h).0 in
    and_true (has_digit (decimal n) numeral.0)
    (and_true (digits_hold (λ b. not (is_blank b)) (λ b low high. grind (arith, nat_tests)) (decimal n) numeral.1)
    (digits_hold (λ b. not (is_comment b)) (λ b low high. grind (arith, nat_tests)) (decimal n) numeral.1))

-- The number that digits write is the number that was written.
number_in-decimal : (n : ℕ) → n < 2 ^ 64 → number_in (decimal n) ≡ Some n
number_in-decimal n h = rw (has_digit (decimal n) (decimal_is_IsNumeral n h).0.0, digits_decimal digits_model n h, digits_value-decimal digits_model n h) refl

-- A number reads again.
pub number_again : (bits n : ℕ) (what : Expected) (ws : List Word) → n < 2 ^ bits → n < 2 ^ 64 → a_number bits what (decimal n ∷ ws) ≡ Ok (n, ws)
number_again bits n what ws h k =
    let least : min (2 ^ bits - 1) n ≡ n = omega arith in
    rw (no_minus (decimal n) (digits_decimal digits_model n k), number_in-decimal n k, least) refl

-- So does one that has to be what is written.
pub exact_again : (n : ℕ) (what : Expected) (ws : List Word) → n < 2 ^ 32 → exact_number what (decimal n ∷ ws) ≡ Ok (n, ws)
exact_again n what ws h =
    let small : nat_lt n (2 ^ 32) ≡ true = grind (arith, nat_tests) in
    rw (number_again 64 n what ws (omega arith) (omega arith), small) refl

signed_digits : (ds : List ℕ) → has_bytes ds ≡ true → all_ascii_digits ds ≡ true → signed_in ds ≡ option_map pos (number_in ds)
signed_digits [] h k = cc
signed_digits (d ∷ ds) h k = rw (no_minus (d ∷ ds) k) refl

pub price_in-signed : (z : ℤ) → FitsSigned w64 z → price_in (signed_decimal z) ≡ Some z
price_in-signed (pos n) h =
    let small : n < 2 ^ 63 = h.sfits in
    let least : min n (2 ^ 63 - 1) ≡ n = omega arith in
    let fits : n < 2 ^ 64 = omega arith in
    rw (signed_digits (decimal n) (has_digit (decimal n) (decimal_is_IsNumeral n fits).0.0) (digits_decimal digits_model n fits), number_in-decimal n fits, least) refl
price_in-signed (negsuc n) h =
    let small : n < 2 ^ 63 = h.sfits in
    let least : min n (2 ^ 63 - 1) ≡ n = omega arith in
    let fits : suc n < 2 ^ 64 = omega arith in
    rw (number_in-decimal (suc n) fits, least) refl

-- A price is a plain word, and reads again.
pub plain_signed : (z : ℤ) → FitsSigned w64 z → plain (signed_decimal z) ≡ true
plain_signed (pos n) h = let small : n < 2 ^ 63 = h.sfits in plain_decimal n (omega arith)
plain_signed (negsuc n) h =
    let small : n < 2 ^ 63 = h.sfits in
    let fits : suc n < 2 ^ 64 = omega arith in
    let numeral = (decimal_is_IsNumeral (suc n) fits).0 in
    and_true refl
    (and_true (and_true refl (digits_hold (λ b. not (is_blank b)) (λ b low high. grind (arith, nat_tests)) (decimal (suc n)) numeral.1))
    (and_true refl (digits_hold (λ b. not (is_comment b)) (λ b low high. grind (arith, nat_tests)) (decimal (suc n)) numeral.1)))

pub price_again : (z : ℤ) (what : Expected) (ws : List Word) → FitsSigned w64 z → a_price what (signed_decimal z ∷ ws) ≡ Ok (z, ws)
price_again z what ws h = rw (price_in-signed z h) refl

-- What begins with a digit or a minus is another word than `none`.
digits_are_not_none : (ds : List ℕ) → all_ascii_digits ds ≡ true → bytes_eq ds (codes "none") ≡ false
digits_are_not_none [] h = refl
digits_are_not_none (d ∷ ds) h = grind (arith, nat_tests)

pub signed_is_not_none : (z : ℤ) → FitsSigned w64 z → bytes_eq (signed_decimal z) (codes "none") ≡ false
signed_is_not_none (pos n) h = let small : n < 2 ^ 63 = h.sfits in digits_are_not_none (decimal n) (digits_decimal digits_model n (omega arith))
signed_is_not_none (negsuc n) h = refl
