-- A response that may stand, with an arrival number and an own number that are free, may be stored, since 64 slots are enough.
use Rattle.std.proofs.Common.{◌≡◌, ◌<◌, true, false, not, ltb, length, is_some, sym, ap, ◌∙◌, arith}
use Rattle.std.proofs.lemmas.Bool.Decides.{nat_tests}
use Rattle.allocation.specs.declared.auction.Auction.{Auction}
use Rattle.allocation.specs.declared.response.Response.{Response}
use Rattle.allocation.specs.Auction.{auction_values, may_store}
use Rattle.allocation.specs.AuctionInvariant.{response_ok, arrival_free, own_free}
use Rattle.allocation.specs.Table.{standing, own_response}
use Rattle.std.proofs.lemmas.Bool.{and_from}
use Rattle.allocation.proofs.FewResponses.{slot_left}
use Rattle.allocation.proofs.OwnResponses.{free_stands}

-- a response that may stand and whose numbers are free may be stored
pub own_stored : (a : Auction) (x : Response) → response_ok a.order.size a.floor a.initiating x ≡ true → arrival_free x.arrival (standing a.table) ≡ true
    → is_some (own_response x.member x.own_number (standing a.table)) ≡ false → may_store (auction_values a) x ≡ true
own_stored a x ok arrival none =
    let xs = standing a.table in
    let own_number : own_free x.member x.own_number xs ≡ true = sym (free_stands x.member x.own_number xs) ∙ ap not none in
    let few : length xs < 64 = slot_left a.order.size a.floor a.initiating xs x a.responses a.owns ok own_number in
    let left : ltb (length xs) 64 ≡ true = grind (arith, nat_tests) in
    and_from (response_ok a.order.size a.floor a.initiating x) _ ok
    (and_from (arrival_free x.arrival xs) _ arrival
    (and_from (not (is_some (own_response x.member x.own_number xs))) _ (ap not none) left))
