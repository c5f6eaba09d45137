-- What an interval source means, and the limits that every source keeps.
use Rattle.std.specs.Prelude.{ℕ, ◌≤◌}

-- A source of positions P: what a draw answers, in milliseconds, and which position follows. Both follow
-- from the position and from nothing else.
pub record SourceMeaning (P : Type 0) : Type 0 where
  pub draws : P → ℕ
  pub next : P → P

-- At every position a draw answers 100 to 1,000 milliseconds.
abbrev pub WithinLimits : {P : Type 0} → SourceMeaning P → Type 0
WithinLimits {P} m = (p : P) → (100 ≤ m.draws p) × (m.draws p ≤ 1000)
