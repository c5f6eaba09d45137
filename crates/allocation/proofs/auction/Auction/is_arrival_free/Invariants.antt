-- None so far has the number: it is free exactly if it is among those left.
use Rattle.std.proofs.Common.{◌≡◌, drop}
use Rattle.allocation.specs.AuctionInvariant.{arrival_free}
use Rattle.allocation.specs.Table.{standing}
use Rattle.allocation.proofs.auction.Auction.is_arrival_free.Given as goal

abbrev pub invariant-loop-response : goal.invariant-loop-response
invariant-loop-response l = arrival_free l.arrival (standing l.self.table) ≡ arrival_free l.arrival (drop l.response-index (standing l.self.table))
