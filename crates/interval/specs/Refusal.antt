-- The refusal of an interval source, told by its number.
use Rattle.std.specs.Prelude.{ℕ}
use Rattle.interval.specs.declared.refusal.IntervalRefusal.{IntervalRefusal}
use Rattle.interval.specs.declared.refusal.IntervalRefusal.TheVariants.{LengthOutsideLimits}

-- Making an interval source: 8 a fixed interval outside 100 to 1,000 milliseconds.
abbrev pub interval_refusal_number : IntervalRefusal → ℕ
interval_refusal_number LengthOutsideLimits = 8
