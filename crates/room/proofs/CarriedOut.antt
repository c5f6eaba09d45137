-- A request that has passed its checks can be carried out: the auction stores the response, changes it, and can be told of
-- it; and a floor that brings no end can be had.
use Rattle.std.proofs.Common.{◌≡◌, ℕ, ◌+◌, Bool, true, false, cond, not, ◌&&◌, leb, List, [], ◌∷◌, ℤ, is_some, Some, None, Option, ap, ◌∙◌, subst, arith}
use borrow.Author.Differences.{ints}
use lib.Signed.{le_z, lt_z}
use Rattle.std.proofs.lemmas.Bool.Decides.{nat_tests}
use Rattle.market.specs.Limits.{showable}
use Rattle.allocation.proofs.ByOwnNumber.{own_stored}
use Rattle.allocation.proofs.FillProved.{Terms, terms_hold}
use Rattle.allocation.specs.declared.auction.Auction.{Auction}
use Rattle.allocation.specs.declared.order.GuaranteeKind.{GuaranteeKind}
use Rattle.allocation.specs.declared.order.GuaranteeKind.TheVariants.{SingleStop, AutoMatchLimit}
use Rattle.allocation.specs.declared.response.NewTerms.{NewTerms}
use Rattle.allocation.specs.declared.response.Response.{Response}
use Rattle.allocation.specs.declared.response.ResponseId.{ResponseId}
use Rattle.allocation.specs.Auction.{AuctionValues, auction_values, may_store, after_store, may_change, after_change, may_move_floor}
use Rattle.allocation.specs.AuctionInvariant.{from_to, range_ok, guarantee_ok, stop_ok, terms_ok, stored_ok, response_ok, each}
use Rattle.allocation.specs.Table.{is_of, own_response, any_below}
use Rattle.room.specs.declared.open_auction.OpenAuction.{OpenAuction}
use Rattle.room.specs.declared.requests.ChangeRequest.{ChangeRequest}
use Rattle.room.specs.declared.requests.ResponseRequest.{ResponseRequest}
use Rattle.room.specs.Responses.{turned_in, stored_price, stored_size, as_stored, with_counted, with_response, with_change}
use Rattle.room.specs.Rooms.{open_values}
use Rattle.room.specs.State.{OpenValues}
use Rattle.room.specs.declared.checked.CheckedChange.{CheckedChange}
use Rattle.room.specs.declared.checked.CheckedResponse.{CheckedResponse}
use Rattle.room.specs.declared.limits.Size.{Size}
use Rattle.room.specs.Checked.{response_request, change_request}
use Rattle.room.specs.Storing.{next_terms, ResponsePasses, ChangePasses}
use Rattle.room.specs.Ticks.{above_stop, tick_cause}
use Rattle.room.specs.Counts.{all_arrived}
use Rattle.room.proofs.Counting.{next_is_free, arrived_next}
use Rattle.allocation.proofs.AuctionKept.{each_push}
use Rattle.room.proofs.Sound.{stored_may_stand, each_rewritten, ends_for_none}
use Rattle.room.proofs.Tests.{both_true, left_true, right_true, none_some}

-- the terms of an auction, one by one
terms_of : (a : Auction) → Terms (auction_values a).order (auction_values a).floor (auction_values a).initiating
terms_of a = terms_hold a.order a.floor a.initiating a.terms

sized : (a : Auction) → leb 1 (auction_values a).order.size ≡ true
sized a = left_true (leb 1 a.order.size) (leb a.order.size 100000) (left_true (from_to 1 100000 a.order.size) (range_ok a.floor a.initiating && guarantee_ok a.order.guarantee a.floor a.initiating) a.terms)

-- a size and a price as they are stored may stand
may_stand : (a : OpenAuction) (size : Size) (price : ℤ) → lt_z (auction_values a.auction).initiating (turned_in (open_values a) price) ≡ false
    → stored_ok (auction_values a.auction).order.size (auction_values a.auction).floor (auction_values a.auction).initiating (stored_size (open_values a) size.contracts) (stored_price (open_values a) price) ≡ true
may_stand a size price not_above =
    let v = auction_values a.auction in
    stored_may_stand v.order.size v.floor v.initiating size.contracts (turned_in (open_values a) price)
    (sized a.auction) (terms_of a.auction).in_order (left_true (leb 1 size.contracts) _ size.in_limits) not_above

-- a response that passes may be stored
may_store_stored : (a : OpenAuction) (x : CheckedResponse) → ResponsePasses (open_values a) (response_request x) → may_store (auction_values a.auction) (as_stored (open_values a) (response_request x)) ≡ true
may_store_stored a x ok =
    let v = auction_values a.auction in
    let y = as_stored (open_values a) (response_request x) in
    let stands : response_ok v.order.size v.floor v.initiating y ≡ true =
    both_true (from_to 1 16 y.member) _ x.of.member.in_limits (both_true (from_to 1 4 y.own_number) _ x.of.own_number.in_limits (may_stand a x.size x.price.cents ok.terms.not_above)) in
    own_stored a.auction y stands (next_is_free a.arrivals v.stood a.arrived) ok.not_in_use

-- a change that passes may be made
may_change_stored : (a : OpenAuction) (x : CheckedChange) → ChangePasses (open_values a) (change_request x)
    → may_change (auction_values a.auction) (record { member = x.of.member.number; own_number = x.of.own_number.number }) (next_terms (open_values a) x.price.cents x.size.contracts) ≡ true
may_change_stored a x ok =
    let v = auction_values a.auction in
    both_true (is_some (own_response x.of.member.number x.of.own_number.number v.stood)) _ ok.stands
    (both_true (stored_ok v.order.size v.floor v.initiating _ _) _ (may_stand a x.size x.price.cents ok.terms.not_above) (next_is_free a.arrivals v.stood a.arrived))

-- The open auction with other values.
abbrev pub with_values : OpenValues → AuctionValues → OpenValues
with_values a v = record a { values = v }

-- what is known of one more response or change that was counted: the auctions before and after, and its terms as they are stored
pub record Counted (before after : OpenAuction) (member : ℕ) (price : ℤ) (size : ℕ) (to : NewTerms) : Type 0 where
  pub counted : open_values after ≡ with_counted (open_values before) member (auction_values before.auction).stood
  pub stored : to ≡ next_terms (open_values before) price size

module _ (a b : OpenAuction) (to : NewTerms) where
  -- counting leaves the values of the auction
  values_stay : (member : ℕ) → open_values b ≡ with_counted (open_values a) member (auction_values a.auction).stood → auction_values b.auction ≡ auction_values a.auction
  values_stay member count = ap (λ (o : OpenValues). o.values) count

  module _ (x : CheckedResponse) (price : ℤ) (known : Counted a b x.of.member.number x.price.cents x.size.contracts to) (same : price ≡ to.price) where
    -- the response that is handed to the auction
    abbrev pub next_response : Response
    next_response = record { member = x.of.member.number; own_number = x.of.own_number.number; kind = x.kind; class = x.class; size = to.size; price = price; arrival = to.arrival }

    next_is_stored : next_response ≡ as_stored (open_values a) (response_request x)
    next_is_stored i = record { member = x.of.member.number; own_number = x.of.own_number.number; kind = x.kind; class = x.class; size = (known.stored i).size; price = (same ∙ ap (λ (t : NewTerms). t.price) known.stored) i; arrival = (known.stored i).arrival }

    pub counted_may_store : ResponsePasses (open_values a) (response_request x) → may_store (auction_values b.auction) next_response ≡ true
    counted_may_store ok = (λ i. may_store (values_stay x.of.member.number known.counted i) (next_is_stored i)) ∙ may_store_stored a x ok

    pub counted_stores : (after : AuctionValues) → after ≡ after_store (auction_values b.auction) next_response → with_values (open_values b) after ≡ with_response (open_values a) (response_request x)
    counted_stores after is =
        ap (with_values (open_values b)) (is ∙ (λ i. after_store (values_stay x.of.member.number known.counted i) (next_is_stored i)))
        ∙ ap (λ (o : OpenValues). with_values o (with_response (open_values a) (response_request x)).values) known.counted

  module _ (x : CheckedChange) (of : ResponseId) (known : Counted a b x.of.member.number x.price.cents x.size.contracts to) (its : of ≡ record { member = x.of.member.number; own_number = x.of.own_number.number }) where
    pub counted_may_change : ChangePasses (open_values a) (change_request x) → may_change (auction_values b.auction) of to ≡ true
    counted_may_change ok = (λ i. may_change (values_stay x.of.member.number known.counted i) (its i) (known.stored i)) ∙ may_change_stored a x ok

    pub counted_changes : (after : AuctionValues) → after ≡ after_change (auction_values b.auction) of to → with_values (open_values b) after ≡ with_change (open_values a) (change_request x)
    counted_changes after is =
        ap (with_values (open_values b)) (is ∙ (λ i. after_change (values_stay x.of.member.number known.counted i) (its i) (known.stored i)))
        ∙ ap (λ (o : OpenValues). with_values o (with_change (open_values a) (change_request x)).values) known.counted

-- and all that then stand have arrived
pub response_arrived : (a : OpenAuction) (x : ResponseRequest) → all_arrived (a.arrivals + 1) (with_response (open_values a) x).values.stood ≡ true
response_arrived a x =
    let last : leb (a.arrivals + 1) (a.arrivals + 1) ≡ true = grind (arith, nat_tests) in
    let xs = (auction_values a.auction).stood in
    each_push (λ (y : Response). leb y.arrival (a.arrivals + 1)) xs (as_stored (open_values a) x) (arrived_next a.arrivals xs a.arrived) last

pub change_arrived : (a : OpenAuction) (x : ChangeRequest) → all_arrived (a.arrivals + 1) (with_change (open_values a) x).values.stood ≡ true
change_arrived a x =
    let last : leb (a.arrivals + 1) (a.arrivals + 1) ≡ true = grind (arith, nat_tests) in
    let o = open_values a in
    each_rewritten (λ (y : Response). leb y.arrival (a.arrivals + 1)) x.member x.own_number (stored_size o x.size) (stored_price o x.price) (a.arrivals + 1) o.values.stood (λ (y : Response) e. last) (arrived_next a.arrivals o.values.stood a.arrived)

-- what holds of each response that stands holds of the one that is found
found_at : (b : Bool) (t : Response → Bool) (x y : Response) (o : Option Response) → t x ≡ true → (o ≡ Some y → t y ≡ true) → cond b (Some x) o ≡ Some y → t y ≡ true
found_at true t x y o h again e = let same : x ≡ y = cc in subst (λ (z : Response). t z ≡ true) same h
found_at false t x y o h again e = again e

found_has : (t : Response → Bool) (m o : ℕ) (xs : List Response) (y : Response) → each t xs ≡ true → own_response m o xs ≡ Some y → t y ≡ true
found_has t m o [] y h e = none_some y e
found_has t m o (x ∷ xs) y h e = found_at (is_of m o x) t x y (own_response m o xs) (left_true (t x) _ h) (found_has t m o xs y (right_true (t x) _ h)) e

-- a standing response's price can be turned back
shown_within : (most : ℕ) (low high : ℤ) (y : Response) → showable (Some low) ≡ true → showable (Some high) ≡ true → response_ok most low high y ≡ true → showable (Some y.price) ≡ true
shown_within most low high y a b h = grind (arith, ints, nat_tests)

pub standing_shown : (a : Auction) (m o : ℕ) (y : Response) → own_response m o (auction_values a).stood ≡ Some y → showable (Some y.price) ≡ true
standing_shown a m o y e =
    let v = auction_values a in
    shown_within v.order.size v.floor v.initiating y (terms_of a).floor_shown (terms_of a).initiating_shown (found_has (response_ok v.order.size v.floor v.initiating) m o v.stood y a.responses e)

-- a floor that brings no end can be had
refloored : (size : ℕ) (k : GuaranteeKind) (price old new initiating : ℤ) → (from_to 1 100000 size && (range_ok old initiating && (le_z price initiating && stop_ok k old price))) ≡ true
    → showable (Some new) ≡ true → lt_z initiating new ≡ false → above_stop (Some new) k price ≡ false → (from_to 1 100000 size && (range_ok new initiating && (le_z price initiating && stop_ok k new price))) ≡ true
refloored size SingleStop price old new initiating h a b c = grind (arith, ints, nat_tests)
refloored size AutoMatchLimit price old new initiating h a b c = grind (arith, ints, nat_tests)

pub floor_moves : (a : Auction) (f : ℤ) (contra : Option ℤ) → showable (Some f) ≡ true → tick_cause (auction_values a) (record { floor = Some f; contra = contra }) ≡ None → may_move_floor (auction_values a) f ≡ true
floor_moves a f contra shown none =
    let v = auction_values a in
    let first = ends_for_none (lt_z v.initiating f) _ _ none in
    let second = ends_for_none (any_below f v.stood) _ _ first.1 in
    let third = ends_for_none (above_stop (Some f) v.order.guarantee.kind v.order.guarantee.price) _ _ second.1 in
    both_true (terms_ok v.order f v.initiating) _ (refloored v.order.size v.order.guarantee.kind v.order.guarantee.price v.floor f v.initiating a.terms shown first.0 third.0) (ap not second.0)
