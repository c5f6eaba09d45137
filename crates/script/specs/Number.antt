-- Decimal numbers of any length, and the nearest that a machine word holds.
use Rattle.std.specs.Prelude.{ℕ, ℤ, pos, neg_ℤ, List, [], ◌∷◌, cond, ◌&&◌, ◌==◌, Option, Some, None}
use Rattle.std.specs.Int.{saturate_to_bits}
use Rattle.std.specs.Option.{option_map}
use Rattle.std.specs.Str.{all_ascii_digits}
use Rattle.std.specs.Str.Parse.{digits_value}
use Rattle.script.specs.Words.{has_bytes}

-- The number that digits write: there is one at least, and nothing else.
abbrev pub number_in : List ℕ → Option ℕ
number_in digits = cond (has_bytes digits && all_ascii_digits digits) (Some (digits_value 10 digits)) None

-- A number that may have a minus in front.
abbrev pub signed_in : List ℕ → Option ℤ
signed_in [] = None
signed_in (b ∷ bs) = cond (b == 45) (option_map (λ n. neg_ℤ (pos n)) (number_in bs)) (option_map pos (number_in (b ∷ bs)))

-- A price: the nearest to the number that 64 bits with a sign hold.
abbrev pub price_in : List ℕ → Option ℤ
price_in word = option_map (saturate_to_bits 63) (signed_in word)
