-- The response may be stored; with its count it is the model's, and no arrival number is above the last one given.
use Rattle.std.proofs.Common.{ap, ◌∙◌, w64, SFits, rules}
use Rattle.std.proofs.lemmas.Int.{to_z-of_z}
use Rattle.allocation.specs.Auction.{auction_values}
use Rattle.room.specs.Counts.{all_arrived}
use Rattle.room.specs.Checked.{response_request}
use Rattle.room.specs.State.{OpenValues}
use Rattle.room.proofs.CarriedOut.{counted_may_store, counted_stores, response_arrived}
use Rattle.room.proofs.open_auction.OpenAuction.store.Goals as goal

pub store-requires : goal.store-requires
store-requires c =
    let to = c.next_terms.result.1 in
    let fits : SFits w64 to.price = search rules in
    counted_may_store c.args.self.now c.next_terms.new.self to c.args.response.now _ (record { counted = c.next_terms.ensures.counted; stored = c.next_terms.ensures.stored }) (to_z-of_z w64 to.price fits) c.requires

pub invariant_of-self-clause-arrived : goal.invariant_of-self-clause-arrived
invariant_of-self-clause-arrived c =
    let a = c.args.self.now in
    let x = c.args.response.now in
    let to = c.next_terms.result.1 in
    let fits : SFits w64 to.price = search rules in
    let after = counted_stores a c.next_terms.new.self to x _ (record { counted = c.next_terms.ensures.counted; stored = c.next_terms.ensures.stored }) (to_z-of_z w64 to.price fits) (auction_values c.store.new.self) c.store.ensures in
    ap (λ (o : OpenValues). all_arrived o.arrivals o.values.stood) after ∙ response_arrived a (response_request x)

pub returns-clause-after : goal.returns-clause-after
returns-clause-after c =
    let to = c.next_terms.result.1 in
    let fits : SFits w64 to.price = search rules in
    counted_stores c.args.self.now c.next_terms.new.self to c.args.response.now _ (record { counted = c.next_terms.ensures.counted; stored = c.next_terms.ensures.stored }) (to_z-of_z w64 to.price fits) (auction_values c.store.new.self) c.store.ensures
