-- The refusal of a fill list, told by its number.
use Rattle.std.specs.Prelude.{ℕ}
use Rattle.allocation.specs.declared.refusal.FillRefusal.{FillRefusal}
use Rattle.allocation.specs.declared.refusal.FillRefusal.TheVariants.{ListTooShort}

-- 6 a fill list under 129 rows.
abbrev pub fill_number : FillRefusal → ℕ
fill_number ListTooShort = 6
