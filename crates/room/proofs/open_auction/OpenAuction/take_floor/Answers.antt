-- A floor that brings no end can be had, so the auction gets it, as in the model, and no arrival number changes.
use Rattle.std.proofs.Common.{◌≡◌, true, ℤ, Some, None, Option, sym, ap, ◌∙◌, w64, SFits, rules}
use Rattle.std.proofs.lemmas.Int.{to_z-of_z}
use Rattle.market.specs.Limits.{showable}
use Rattle.allocation.specs.Auction.{AuctionValues, auction_values, may_move_floor, with_floor}
use Rattle.room.specs.Counts.{all_arrived}
use Rattle.room.specs.Rooms.{open_values}
use Rattle.room.specs.Ticks.{tick_cause, floor_now, at_floor}
use Rattle.room.proofs.CarriedOut.{with_values, floor_moves}
use Rattle.room.proofs.open_auction.OpenAuction.take_floor.Goals as goal

pub move_floor-requires : goal.move_floor-requires
move_floor-requires c =
    let a = c.args.self.now.auction in
    let q = c.args.shown.now in
    let f = c.in-Some.floor in
    let fits : SFits w64 f = search rules in
    let can : showable (Some f) ≡ true = ap showable (sym c.in-Some.is) ∙ c.requires.floor in
    let no_end : tick_cause (auction_values a) (record { floor = Some f; contra = q.contra }) ≡ None =
    ap (λ (o : Option ℤ). tick_cause (auction_values a) (record { floor = o; contra = q.contra })) (sym c.in-Some.is) ∙ c.requires.kept in
    ap (may_move_floor (auction_values a)) (to_z-of_z w64 f fits) ∙ floor_moves a f q.contra can no_end

pub invariant_of-self-clause-arrived : goal.invariant_of-self-clause-arrived
invariant_of-self-clause-arrived c =
    let a = c.args.self.now in
    let fits : SFits w64 c.in-Some.floor = search rules in
    ap (λ (v : AuctionValues). all_arrived a.arrivals v.stood) (c.move_floor.ensures ∙ ap (with_floor (auction_values a.auction)) (to_z-of_z w64 c.in-Some.floor fits)) ∙ a.arrived

pub returns-in-Some : goal.returns-in-Some
returns-in-Some c =
    let a = open_values c.args.self.now in
    let fits : SFits w64 c.in-Some.floor = search rules in
    ap (with_values a) (c.move_floor.ensures ∙ ap (with_floor a.values) (to_z-of_z w64 c.in-Some.floor fits))
    ∙ sym (ap (λ (o : Option ℤ). at_floor (floor_now o a.values.floor) a) c.in-Some.is)
