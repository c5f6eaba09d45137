-- Where a text may be cut: before or behind bytes that are ASCII.
use Rattle.std.proofs.Common.{arith, ◌≡◌, ℕ, ◌<◌, ◌≤◌, Bool, true, false, List, length, get_or, not, subst, add-one, zero, suc}
use Rattle.std.proofs.lemmas.Bool.Decides.{nat_tests}
use Rattle.std.proofs.lemmas.List.Sums.{prefix_len-le-length, prefix_len_passes, prefix_len_stops}
use Rattle.std.proofs.lemmas.Str.{IsCharBoundary-start, IsCharBoundary-after_ascii}
use Rattle.std.specs.List.{prefix_len, position_or_len}
use Rattle.std.specs.Str.{IsUtf8, IsCharBoundary}
use Rattle.script.specs.Words.{is_blank, is_comment}

-- A test that only ASCII passes.
pub record OnlyAscii (p : ℕ → Bool) : Type 0 where
  pub ascii : (b : ℕ) → p b ≡ true → b < 128

pub blanks_are_ascii : OnlyAscii is_blank
blanks_are_ascii = record { ascii = λ b h. grind (arith, nat_tests) }

pub comments_are_ascii : OnlyAscii is_comment
comments_are_ascii = record { ascii = λ b h. grind (arith, nat_tests) }

-- The first that passes may be cut off.
pub cut_before : (p : ℕ → Bool) (bs : List ℕ) → OnlyAscii p → IsCharBoundary bs (position_or_len p bs)
cut_before p bs only = (
  prefix_len-le-length (λ b. not (p b)) bs,
  λ inside high. absurd (
      let stops : not (p (get_or bs (position_or_len p bs) 0)) ≡ false = prefix_len_stops (λ b. not (p b)) bs 0 inside in
      let low : get_or bs (position_or_len p bs) 0 < 128 = only.ascii (get_or bs (position_or_len p bs) 0) (grind (arith, stops)) in
      omega arith),
)

-- Those in front that pass may be cut off.
pub cut_behind : (p : ℕ → Bool) (bs : List ℕ) → OnlyAscii p → IsUtf8 bs → IsCharBoundary bs (prefix_len p bs)
cut_behind p bs only text = behind (prefix_len p bs) (prefix_len-le-length p bs) (λ k below. only.ascii (get_or bs k 0) (prefix_len_passes p bs k 0 below))
  where
    behind : (n : ℕ) → n ≤ length bs → ((k : ℕ) → k < n → get_or bs k 0 < 128) → IsCharBoundary bs n
    behind zero fits low = IsCharBoundary-start bs text
    behind (suc k) fits low = subst (IsCharBoundary bs) (add-one k) (IsCharBoundary-after_ascii bs k text (omega arith) (low k (omega arith)))
