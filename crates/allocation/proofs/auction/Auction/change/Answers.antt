-- With the new terms the auction is still one: the response may stand so, its arrival number is free, and own numbers stay.
-- What stands at the index that was found is the one response that changes.
use Rattle.std.proofs.Common.{ap, rules}
use Rattle.allocation.specs.Auction.{auction_values, with_stood}
use Rattle.allocation.specs.Table.{standing}
use Rattle.allocation.proofs.StandTogether.{StandTogether, changed_is, stand_changed, own_is_changed}
use Rattle.allocation.proofs.auction.Auction.change.Goals as goal

pub invariant_of-self : goal.invariant_of-self
invariant_of-self c =
    let a = c.args.self.now in
    let stood : StandTogether (auction_values a) (standing a.table) = record { responses = a.responses; apart = a.apart; owns = a.owns } in
    let changed = changed_is (standing a.table) _ c.args.to _ _ _ _ c.rewrite.ensures (search rules) (search rules) (search rules) in
    let after = stand_changed (auction_values a) stood c.args.of c.args.to _ _ c.requires changed in
    record { terms = a.terms; responses = after.responses; apart = after.apart; owns = after.owns }

pub returns : goal.returns
returns c =
    let a = c.args.self.now in
    let changed = changed_is (standing a.table) _ c.args.to _ _ _ _ c.rewrite.ensures (search rules) (search rules) (search rules) in
    ap (with_stood (auction_values a)) (own_is_changed (auction_values a) c.args.of c.args.to _ _ changed (search rules))
