use Rattle.std.proofs.Common.{◌≡◌, ◌-◌, ◌^◌, length, min, sum_by, take}
use Rattle.cube.proofs.days.misreading_count.Given as goal

abbrev pub invariant-loop-day : goal.invariant-loop-day
invariant-loop-day l = l.count ≡ min (sum_by (λ d. length d.reading.misreadings.items) (take l.day-index l.fn.days)) (2 ^ 64 - 1)
