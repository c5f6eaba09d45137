-- Without one response the auction is still one. What stands at the index that was found is the one that is removed.
use Rattle.std.proofs.Common.{◌≡◌, ap, rules}
use Rattle.allocation.specs.Auction.{auction_values, with_stood}
use Rattle.allocation.specs.Table.{standing, without_own}
use Rattle.allocation.proofs.StandTogether.{StandTogether, stand_without, own_is_withdrawn}
use Rattle.allocation.proofs.auction.Auction.withdraw.Goals as goal

pub invariant_of-self : goal.invariant_of-self
invariant_of-self c =
    let a = c.args.self.now in
    let stood : StandTogether (auction_values a) (standing a.table) = record { responses = a.responses; apart = a.apart; owns = a.owns } in
    let after : StandTogether (auction_values a) (standing c.remove.new.self) = search (stand_without (auction_values a) stood) in
    record { terms = a.terms; responses = after.responses; apart = after.apart; owns = after.owns }

pub returns : goal.returns
returns c =
    let a = c.args.self.now in
    let of = c.args.of in
    let left : standing c.remove.new.self ≡ without_own of.member of.own_number (standing a.table) = search (rules, own_is_withdrawn (auction_values a) of) in
    ap (with_stood (auction_values a)) left
