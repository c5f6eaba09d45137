-- An interval source that counts its draws, each of 100 milliseconds.
use Rattle.std.specs.Prelude.{ℕ, ◌+◌, ◌%◌}
use Rattle.interval.specs.Source.{SourceMeaning}

-- The position is how many were drawn, in 32 bits.
abbrev pub counting_meaning : SourceMeaning ℕ
counting_meaning = record { draws = λ n. 100; next = λ n. (n + 1) % 4294967296 }
