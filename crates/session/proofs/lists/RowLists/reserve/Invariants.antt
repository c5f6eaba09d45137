-- So many are there as were counted, or more, and none has gone.
use Rattle.std.proofs.Common.{◌≤◌}
use Rattle.session.proofs.lists.RowLists.reserve.Given as goal

abbrev pub invariant-loop-count : goal.invariant-loop-count
invariant-loop-count l = (l._count ≤ l.self) × (l.initial.self ≤ l.self)
