-- With one more counted no member is past its 10,000, the members' counts add up to the arrivals, and every response that
-- stands arrived before.
use Rattle.std.proofs.Common.{◌≡◌, ◌+◌, ◌<◌, true, leb, length, get_or, ap, ◌∙◌, arith}
use Rattle.std.proofs.lemmas.Bool.Decides.{nat_tests}
use Rattle.allocation.specs.Auction.{auction_values}
use Rattle.room.proofs.Counting.{total_set, within_set, arrived_next}
use Rattle.room.proofs.open_auction.OpenAuction.count.Goals as goal

pub invariant_of-self-clause-few : goal.invariant_of-self-clause-few
invariant_of-self-clause-few c =
    let a = c.args.self.now in
    let at = c.index.result in
    let left = ap (λ i. leb 10000 (get_or a.used i 0)) c.index.ensures.index ∙ c.requires in
    let more : leb (get_or a.used at 0 + 1) 10000 ≡ true = grind (arith, nat_tests) in
    within_set 10000 a.used at (get_or a.used at 0 + 1) a.few more

pub invariant_of-self-clause-counted : goal.invariant_of-self-clause-counted
invariant_of-self-clause-counted c =
    let a = c.args.self.now in
    let within : c.index.result < length a.used = let members = a.members in omega arith in
    total_set a.used c.index.result within ∙ ap (λ n. n + 1) a.counted

pub invariant_of-self-clause-arrived : goal.invariant_of-self-clause-arrived
invariant_of-self-clause-arrived c = let a = c.args.self.now in arrived_next a.arrivals (auction_values a.auction).stood a.arrived
