-- The rows so far, and then those of the responses left, dealt with the odd contracts that are left, are all the rows of the
-- sharing. Where all that is asked for is had, none is odd.
use Rattle.std.proofs.Common.{◌≡◌, ◌++◌, take, drop}
use Rattle.allocation.specs.Fill.{class_rows, shared_rows}
use Rattle.allocation.specs.Share.{sizes, deal}
use Rattle.allocation.proofs.share.Deal.write_rows.Given as goal

abbrev pub invariant-loop-i : goal.invariant-loop-i
invariant-loop-i l =
    (take l.i l.rows ++ class_rows l.side (drop l.i l.self.among.responses.now) (deal l.self.contracts l.self.asked l.odd (sizes (drop l.i l.self.among.responses.now))) ≡ shared_rows l.side l.self.contracts l.self.among.responses.now)
    × (l.self.contracts ≡ l.self.asked → l.odd ≡ 0)
