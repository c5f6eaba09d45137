-- The responses of the clone are those that stand, so it is an auction of the same values.
use Rattle.std.proofs.Common.{ap, ◌∙◌, rules}
use Rattle.std.specs.List.{each_same}
use Rattle.allocation.specs.AuctionInvariant.{arrivals_apart, owns_apart}
use Rattle.allocation.specs.Table.{standing}
use Rattle.allocation.proofs.auction.AuctionClone.clone.Goals as goal

pub invariant_of-result : goal.invariant_of-result
invariant_of-result c =
    let a = c.args.self.now in
    let same = each_same (standing a.table) (standing c.in_ok-clone.field-0) c.in_ok-clone.ensures.cases in
    record {
      terms = search (rules, a.terms);
      responses = search (rules, same, a.responses);
      apart = ap arrivals_apart same ∙ a.apart;
      owns = ap owns_apart same ∙ a.owns;
    }

pub returns : goal.returns
returns c =
    let a = c.args.self.now in
    let same = each_same (standing a.table) (standing c.in_ok-clone.field-0) c.in_ok-clone.ensures.cases in
    search (rules, same)
