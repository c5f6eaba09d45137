-- The stored price can be turned back for the answer; those that are left are the model's, with the arrival numbers that they
-- had.
use Rattle.std.proofs.Common.{ℤ, is_some, Some, leb, ap, ◌∙◌, w64, SFits, rules}
use Rattle.std.proofs.lemmas.Int.{to_z-of_z}
use Rattle.market.specs.Limits.{showable}
use Rattle.allocation.specs.declared.response.Response.{Response}
use Rattle.allocation.specs.declared.response.ResponseId.{ResponseId}
use Rattle.allocation.specs.Auction.{AuctionValues, auction_values, after_withdrawal}
use Rattle.allocation.specs.Table.{own_response}
use Rattle.room.specs.Counts.{all_arrived}
use Rattle.room.specs.Rooms.{open_values}
use Rattle.room.proofs.Sound.{each_without}
use Rattle.room.proofs.CarriedOut.{with_values, standing_shown}
use Rattle.room.proofs.open_auction.OpenAuction.withdraw.Goals as goal

pub told-told-requires : goal.told-told-requires
told-told-requires c =
    let x = c.args.withdrawal.now in
    let y = c.args.standing.now in
    let fits : SFits w64 y.price = search rules in
    ap (λ (z : ℤ). showable (Some z)) (to_z-of_z w64 y.price fits) ∙ standing_shown c.args.self.now.auction x.of.member.number x.of.own_number.number y c.requires

pub withdraw-requires : goal.withdraw-requires
withdraw-requires c =
    let stood = (auction_values c.args.self.now.auction).stood in
    ap (λ (of : ResponseId). is_some (own_response of.member of.own_number stood)) c.id.ensures ∙ ap is_some c.requires

pub invariant_of-self-clause-arrived : goal.invariant_of-self-clause-arrived
invariant_of-self-clause-arrived c =
    let a = c.args.self.now in
    let x = c.args.withdrawal.now in
    let v = auction_values a.auction in
    ap (λ (u : AuctionValues). all_arrived a.arrivals u.stood) (c.withdraw.ensures ∙ ap (after_withdrawal v) c.id.ensures)
    ∙ each_without x.of.member.number x.of.own_number.number (λ (y : Response). leb y.arrival a.arrivals) v.stood a.arrived

pub returns-clause-after : goal.returns-clause-after
returns-clause-after c =
    let a = c.args.self.now in
    let x = c.args.withdrawal.now in
    ap (with_values (open_values a)) (c.withdraw.ensures ∙ ap (after_withdrawal (auction_values a.auction)) c.id.ensures)
