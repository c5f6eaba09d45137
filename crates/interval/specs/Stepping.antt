-- A stepping interval: each draw steps a seed, and answers a length that follows from the new seed.
use Rattle.std.specs.Prelude.{ℕ, ◌+◌, ◌*◌, ◌%◌}
use Rattle.interval.specs.Source.{SourceMeaning}

-- The seed s is followed by (1,664,525 × s + 1,013,904,223) mod 2^32.
abbrev pub next_seed : ℕ → ℕ
next_seed s = (1664525 * s + 1013904223) % 4294967296

-- A draw answers 100 + (new seed mod 901) milliseconds.
abbrev pub next_length : ℕ → ℕ
next_length s = 100 + next_seed s % 901

-- The position is the seed.
abbrev pub stepping_meaning : SourceMeaning ℕ
stepping_meaning = record { draws = next_length; next = next_seed }
