-- A number that is held at a most while its digits are read comes to the least of the number and the most.
use Rattle.std.proofs.Common.{arith, ◌≡◌, ℕ, ◌+◌, ◌*◌, ◌≤◌, ◌-◌, min, List, [], ◌∷◌, ◌∙◌}
use Rattle.std.proofs.lemmas.Str.{digit_value_digit}
use Rattle.std.specs.Char.{digit_value}
use Rattle.std.proofs.lemmas.Bool.Decides.{nat_tests}
use Rattle.std.specs.Str.{all_ascii_digits}
use Rattle.std.specs.Str.Parse.{digits_value_after}

-- More digits make no number less.
pub value_after_ge : (n : ℕ) (ds : List ℕ) → n ≤ digits_value_after 10 n ds
value_after_ge n [] = omega arith
value_after_ge n (d ∷ ds) = omega (arith, value_after_ge (n * 10 + digit_value d) ds)

-- StatementFits at the most first, a number comes to the same with more digits behind it.
pub held_value_after : (most n : ℕ) (ds : List ℕ) → min most (digits_value_after 10 (min most n) ds) ≡ min most (digits_value_after 10 n ds)
held_value_after most n ds = grind (arith, value_after_ge n ds, value_after_ge most ds)

-- One digit more, in 64 bits.
pub value_with_digit : (most v w d : ℕ) (ds : List ℕ) → most ≤ 18446744073709551615 → 48 ≤ d → d ≤ 57
    → w ≡ min (min (min (v * 10) 18446744073709551615 + (d - 48)) 18446744073709551615) most → min most (digits_value_after 10 w ds) ≡ min most (digits_value_after 10 v (d ∷ ds))
value_with_digit most v w d ds fits low high e =
    let digit : digit_value d + 48 ≡ d = digit_value_digit d (low, high) in
    let held : w ≡ min most (v * 10 + digit_value d) = e ∙ grind arith in
    rw held (held_value_after most (v * 10 + digit_value d) ds)

-- A digit in front leaves whether all are digits.
pub digits_with_digit : (d : ℕ) (ds : List ℕ) → 48 ≤ d → d ≤ 57 → all_ascii_digits (d ∷ ds) ≡ all_ascii_digits ds
digits_with_digit d ds low high = grind (arith, nat_tests)
