-- A fixed interval: every draw answers the same length.
use Rattle.std.specs.Prelude.{ℕ, cond, ◌&&◌, Ok, Err, Result, nat_le}
use Rattle.std.specs.Result.{result_map_both}
use Rattle.interval.specs.declared.fixed.FixedInterval.{FixedInterval}
use Rattle.interval.specs.declared.refusal.IntervalRefusal.{IntervalRefusal}
use Rattle.interval.specs.Refusal.{interval_refusal_number}
use Rattle.interval.specs.Source.{SourceMeaning}

-- What is made of a length in milliseconds: an interval of that length, or refusal 8 for one outside 100 to
-- 1,000.
abbrev pub new_fixed : ℕ → Result ℕ ℕ
new_fixed n = cond (nat_le 100 n && nat_le n 1000) (Ok n) (Err 8)

-- The length of an interval that was made, or the refusal's number.
abbrev pub fixed_length : Result FixedInterval IntervalRefusal → Result ℕ ℕ
fixed_length = result_map_both (λ s. s.length) interval_refusal_number

-- A draw answers the length and leaves the interval as it is.
abbrev pub fixed_meaning : SourceMeaning FixedInterval
fixed_meaning = record { draws = λ s. s.length; next = λ s. s }
