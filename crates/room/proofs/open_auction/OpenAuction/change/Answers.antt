-- The change may be made; the response with its new terms, and its count, is the model's, and no arrival number is above the
-- last one given.
use Rattle.std.proofs.Common.{ap, ◌∙◌}
use Rattle.allocation.specs.Auction.{auction_values}
use Rattle.room.specs.Counts.{all_arrived}
use Rattle.room.specs.Checked.{change_request}
use Rattle.room.specs.State.{OpenValues}
use Rattle.room.proofs.CarriedOut.{counted_may_change, counted_changes, change_arrived}
use Rattle.room.proofs.open_auction.OpenAuction.change.Goals as goal

pub change-requires : goal.change-requires
change-requires c =
    counted_may_change c.args.self.now c.next_terms.new.self c.next_terms.result.1 c.args.change.now c.id.result (record { counted = c.next_terms.ensures.counted; stored = c.next_terms.ensures.stored }) c.id.ensures c.requires

pub invariant_of-self-clause-arrived : goal.invariant_of-self-clause-arrived
invariant_of-self-clause-arrived c =
    let a = c.args.self.now in
    let x = c.args.change.now in
    let after = counted_changes a c.next_terms.new.self c.next_terms.result.1 x c.id.result (record { counted = c.next_terms.ensures.counted; stored = c.next_terms.ensures.stored }) c.id.ensures (auction_values c.change.new.self) c.change.ensures in
    ap (λ (o : OpenValues). all_arrived o.arrivals o.values.stood) after ∙ change_arrived a (change_request x)

pub returns-clause-after : goal.returns-clause-after
returns-clause-after c =
    counted_changes c.args.self.now c.next_terms.new.self c.next_terms.result.1 c.args.change.now c.id.result (record { counted = c.next_terms.ensures.counted; stored = c.next_terms.ensures.stored }) c.id.ensures (auction_values c.change.new.self) c.change.ensures
