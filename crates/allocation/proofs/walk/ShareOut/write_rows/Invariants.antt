-- The walk is underway: the rows so far and those to come are all that is to be written, and there is room for them. Each level
-- leaves less to go, which is counted in responses and the contra's own price.
use Rattle.std.proofs.Common.{◌+◌, length, Some}
use Rattle.allocation.specs.Levels.{contra_level}
use Rattle.allocation.specs.Walk.{walk_rows}
use Rattle.allocation.proofs.WalkSteps.{Underway, to_go}
use Rattle.allocation.proofs.walk.ShareOut.write_rows.Given as goal

abbrev pub invariant-loop-price : goal.invariant-loop-price
invariant-loop-price l =
    Underway l.self.side l.self.terms l.self.arranged.responses.now l.initial.rows (walk_rows (length l.self.arranged.responses.now + 1) l.self.side l.self.terms (Some (contra_level l.self.terms.guarantee.kind l.self.terms)) l.self.arranged.responses.now l.size 0) l.walk l.rows

abbrev pub decreases-loop-price : goal.decreases-loop-price
decreases-loop-price l = to_go l.walk l.self.arranged.responses.now
