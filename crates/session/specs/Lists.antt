-- The memory that calls take before they are made: memory in the purse for each, and a list of rows for each collecting.
use Rattle.std.specs.Prelude.{◌≡◌, ℕ, ◌+◌, ◌≤◌, List, [], ◌∷◌, Vec, vec_items, vec_capacity}
use Rattle.allocation.specs.declared.fill.FillRow.{FillRow}
use Rattle.session.specs.declared.call.Call.{Call}
use Rattle.session.specs.declared.call.Call.TheVariants.{Collect}

-- How many lists of rows a call wants: a collecting one.
abbrev pub lists_for : {T : Type 0} → Call T → ℕ
lists_for (Collect c n) = 1
lists_for _ = 0

-- How many these calls want.
abbrev pub lists_for_all : {T : Type 0} → List (Call T) → ℕ
lists_for_all [] = 0
lists_for_all (c ∷ cs) = lists_for c + lists_for_all cs

-- A list of rows that is kept for a collecting: it is empty, and has memory for every row.
abbrev pub TakesEveryRow : {Z : Type 0} → Vec FillRow Z → Type 0
TakesEveryRow rows = (vec_items rows ≡ []) × (129 ≤ vec_capacity rows)
