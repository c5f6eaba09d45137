-- What is made so far, with what the bytes to come are made to, is what all of them are made to.
use Rattle.std.proofs.Common.{◌≡◌, ◌++◌, drop, false}
use Rattle.day.specs.Source.{feeds_behind}
use Rattle.day.proofs.source.with_line_feeds.Given as goal

abbrev pub invariant-loop-byte : goal.invariant-loop-byte
invariant-loop-byte l = l.made.items ++ feeds_behind l.returned (drop l.byte-index l.fn.bytes) ≡ feeds_behind false l.fn.bytes
