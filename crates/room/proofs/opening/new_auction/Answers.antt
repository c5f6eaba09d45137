-- The order as it is stored has, in its range, the terms of an auction; the values of that are the model's.
use Rattle.std.proofs.Common.{◌∙◌, w64, SFits, rules}
use Rattle.std.proofs.lemmas.Int.{to_z-of_z}
use Rattle.market.specs.Range.{range_prices}
use Rattle.allocation.specs.Auction.{new_auction}
use Rattle.allocation.specs.AuctionInvariant.{terms_ok}
use Rattle.room.specs.Checked.{paired_order}
use Rattle.room.proofs.NewAuctions.{new_terms}
use Rattle.room.proofs.opening.new_auction.Goals as goal

pub new-requires : goal.new-requires
new-requires c =
    let o = paired_order c.args.order.now in
    let r = c.args.range.now in
    let floor_fits : SFits w64 r.floor = search rules in
    let initiating_fits : SFits w64 r.initiating = search rules in
    (λ i. terms_ok (c.stored.ensures i) (to_z-of_z w64 r.floor floor_fits i) (to_z-of_z w64 r.initiating initiating_fits i))
    ∙ new_terms o (range_prices r) c.args.order.now.size.in_limits r.floor_within r.initiating_within r.from_floor c.requires

pub returns : goal.returns
returns c =
    let r = c.args.range.now in
    let floor_fits : SFits w64 r.floor = search rules in
    let initiating_fits : SFits w64 r.initiating = search rules in
    c.new.ensures ∙ (λ i. new_auction (c.stored.ensures i) (to_z-of_z w64 r.floor floor_fits i) (to_z-of_z w64 r.initiating initiating_fits i))
