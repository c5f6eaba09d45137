-- Counted are the lists for the calls so far, one at most for each.
use Rattle.std.proofs.Common.{◌≡◌, ◌≤◌, take}
use Rattle.session.specs.Lists.{lists_for_all}
use Rattle.session.proofs.call.lists_for_all.Given as goal

abbrev pub invariant-loop-call : goal.invariant-loop-call
invariant-loop-call g l = (l.lists ≡ lists_for_all (take l.call-index l.calls)) × (l.lists ≤ l.call-index)
