-- Opening: an order and a range that pass their refusals make an auction.
use Rattle.std.proofs.Common.{◌≡◌, true, false, leb, Some}
use lib.Signed.{lt_z, le_z}
use Rattle.market.specs.Limits.{showable}
use Rattle.market.specs.Range.{RangePrices}
use Rattle.market.specs.Side.{turned_price}
use Rattle.allocation.specs.declared.order.PairedOrder.{PairedOrder}
use Rattle.allocation.specs.AuctionInvariant.{from_to, range_ok, terms_ok}
use Rattle.room.specs.Checks.{size_ok}
use Rattle.room.specs.Openings.{stored_order}
use Rattle.room.proofs.Sound.{new_sound}
use Rattle.room.proofs.Tests.{both_true, left_true}

-- an order and its range have the terms of an auction
pub new_terms : (o : PairedOrder) (r : RangePrices) → size_ok o.size ≡ true → showable (Some r.floor) ≡ true → showable (Some r.initiating) ≡ true → le_z r.floor r.initiating ≡ true
    → lt_z r.initiating (turned_price o.side o.guarantee.price) ≡ false → terms_ok (stored_order r.floor o) r.floor r.initiating ≡ true
new_terms o r size floor initiating ordered above =
    let sound = new_sound o r (left_true (leb 1 o.size) (leb o.size 100000) size) ordered above in
    both_true (from_to 1 100000 o.size) _ size
    (both_true (range_ok r.floor r.initiating) _
    (both_true (showable (Some r.floor)) _ floor (both_true (showable (Some r.initiating)) _ initiating ordered))
    (both_true (le_z (stored_order r.floor o).guarantee.price r.initiating) _ sound.guaranteed_at sound.stop_at))
