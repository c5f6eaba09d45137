-- A price is contained in the range exactly if it is from the floor to the initiating price.
use Rattle.std.proofs.Common.{rules}
use Rattle.allocation.proofs.auction.Auction.is_in_range.Goals as goal

pub returns : goal.returns
returns c =
    let value = c.contains.ensures.value in
    search rules
