-- None so far is below the price: one stands below it exactly if one of those left does.
use Rattle.std.proofs.Common.{◌≡◌, drop}
use Rattle.allocation.specs.Table.{standing, any_below}
use Rattle.allocation.proofs.auction.Auction.is_any_below.Given as goal

abbrev pub invariant-loop-response : goal.invariant-loop-response
invariant-loop-response l = any_below l.price (standing l.self.table) ≡ any_below l.price (drop l.response-index (standing l.self.table))
