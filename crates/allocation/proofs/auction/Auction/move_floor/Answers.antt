-- With the other floor the auction is still one: it may have these terms, and no response stands below the floor.
use Rattle.std.proofs.Common.{rules}
use Rattle.allocation.specs.Auction.{auction_values}
use Rattle.allocation.proofs.StandTogether.{moved_terms_ok, moved_each_ok}
use Rattle.allocation.proofs.auction.Auction.move_floor.Goals as goal

pub invariant_of-self : goal.invariant_of-self
invariant_of-self c =
    let a = c.args.self.now in
    let floor = c.args.floor in
    record {
      terms = search (rules, moved_terms_ok (auction_values a) floor);
      responses = search (rules, moved_each_ok (auction_values a) floor);
      apart = a.apart;
      owns = a.owns;
    }
