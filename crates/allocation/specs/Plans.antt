-- Words for the plan of a level. No rule is stated here, and no public contract cites it.
use Rattle.std.specs.Prelude.{ℕ, ◌+◌, min, length}
use Rattle.allocation.specs.declared.levels.LevelPlan.{LevelPlan}
use Rattle.allocation.specs.Levels.{Level}

-- The level that a plan is of.
abbrev pub planned_level : LevelPlan → Level
planned_level p = record { price = p.price; customers = p.customers.responses.now; others = p.others.responses.now }

-- The rows of a level: one for each response, and one for the contra if it gets any.
abbrev pub plan_rows : LevelPlan → ℕ
plan_rows p = length p.customers.responses.now + (min p.split.contra 1 + length p.others.responses.now)
