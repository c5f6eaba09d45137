-- The rows so far, and then those of the responses left, each filled whole, are all the rows.
use Rattle.std.proofs.Common.{◌≡◌, ◌++◌, take, drop}
use Rattle.allocation.specs.Fill.{class_rows}
use Rattle.allocation.specs.Share.{sizes}
use Rattle.allocation.proofs.share.Standing.write_whole_rows.Given as goal

abbrev pub invariant-loop-i : goal.invariant-loop-i
invariant-loop-i l =
    take l.i l.rows ++ class_rows l.side (drop l.i l.self.responses.now) (sizes (drop l.i l.self.responses.now)) ≡ class_rows l.side l.self.responses.now (sizes l.self.responses.now)
