-- With one response more the auction is still one: it may stand, its arrival number is free, and so is its own number.
use Rattle.std.proofs.Common.{rules}
use Rattle.allocation.specs.Auction.{auction_values}
use Rattle.allocation.specs.Table.{standing}
use Rattle.allocation.proofs.StandTogether.{StandTogether, stored_is, stand_stored}
use Rattle.allocation.proofs.auction.Auction.store.Goals as goal

pub invariant_of-self : goal.invariant_of-self
invariant_of-self c =
    let a = c.args.self.now in
    let stood : StandTogether (auction_values a) (standing a.table) = record { responses = a.responses; apart = a.apart; owns = a.owns } in
    let stored = stored_is (standing a.table) _ c.args.response _ c.push.ensures (search rules) in
    let after = stand_stored (auction_values a) stood c.args.response _ c.requires stored in
    record { terms = a.terms; responses = after.responses; apart = after.apart; owns = after.owns }
