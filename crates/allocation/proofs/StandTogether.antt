-- Responses may stand together in an auction also when one more is stored, one is changed, one is withdrawn or the floor moves.
-- What the code writes is shown apart to be what is to be written, so that its values may be spelled in any way.
use Rattle.std.proofs.Common.{◌≡◌, ℕ, true, List, [], ◌∷◌, ◌++◌, ℤ, is_some, Some, sym, ap, ◌∙◌}
use Rattle.std.proofs.lemmas.Bool.{and_parts, not-true}
use Rattle.allocation.specs.Auction.{AuctionValues, may_store, may_change, may_move_floor}
use Rattle.allocation.specs.AuctionInvariant.{terms_ok, stored_ok, response_ok, each, arrivals_apart, owns_apart}
use Rattle.allocation.specs.Table.{index_of, change_at, without_index, own_response, own_changed, without_own}
use Rattle.allocation.specs.declared.response.NewTerms.{NewTerms}
use Rattle.allocation.specs.declared.response.Response.{Response}
use Rattle.allocation.specs.declared.response.ResponseId.{ResponseId}
use Rattle.allocation.proofs.AuctionKept.{each_push, apart_push, each_rewritten, apart_rewritten, each_without, apart_without}
use Rattle.allocation.proofs.OwnResponses.{found_changed, found_without}
use Rattle.allocation.proofs.OwnsKept.{new_stands, owns_push, owns_rewritten, owns_without, each_raised}

-- what an auction says of the responses that stand in it
pub record StandTogether (a : AuctionValues) (xs : List Response) : Type 0 where
  pub responses : each (response_ok a.order.size a.floor a.initiating) xs ≡ true
  pub apart : arrivals_apart xs ≡ true
  pub owns : owns_apart xs ≡ true

module _ (a : AuctionValues) (stood : StandTogether a a.stood) where
  pub stand_stored : (x : Response) (after : List Response) → may_store a x ≡ true → after ≡ a.stood ++ x ∷ [] → StandTogether a after
  stand_stored x after may h =
      let new = new_stands a x may in
      let ok = response_ok a.order.size a.floor a.initiating in
      record {
        responses = ap (each ok) h ∙ each_push ok a.stood x stood.responses new.stands;
        apart = ap arrivals_apart h ∙ apart_push a.stood x stood.apart new.arrival;
        owns = ap owns_apart h ∙ owns_push a.stood x stood.owns new.own_number;
      }

  pub stand_changed : (of : ResponseId) (to : NewTerms) (after : List Response) (i : ℕ) → may_change a of to ≡ true → after ≡ change_at i to.size to.price to.arrival a.stood → StandTogether a after
  stand_changed of to after i may h =
      let stands = and_parts (is_some (own_response of.member of.own_number a.stood)) _ may in
      let new = and_parts (stored_ok a.order.size a.floor a.initiating to.size to.price) _ stands.1 in
      let ok = response_ok a.order.size a.floor a.initiating in
      record {
        responses = ap (each ok) h ∙ each_rewritten a.order.size a.floor a.initiating i to.size to.price to.arrival a.stood stood.responses new.0;
        apart = ap arrivals_apart h ∙ apart_rewritten i to.size to.price to.arrival a.stood stood.apart new.1;
        owns = ap owns_apart h ∙ owns_rewritten i to.size to.price to.arrival a.stood stood.owns;
      }

  pub stand_without : (after : List Response) (i : ℕ) → after ≡ without_index i a.stood → StandTogether a after
  stand_without after i h =
      let ok = response_ok a.order.size a.floor a.initiating in
      record {
        responses = ap (each ok) h ∙ each_without ok i a.stood stood.responses;
        apart = ap arrivals_apart h ∙ apart_without i a.stood stood.apart;
        owns = ap owns_apart h ∙ owns_without i a.stood stood.owns;
      }

-- what is written behind the others is the response that is stored
pub stored_is : (xs after : List Response) (x y : Response) → after ≡ xs ++ y ∷ [] → y ≡ x → after ≡ xs ++ x ∷ []
stored_is xs after x y h same = h ∙ ap (λ (z : Response). xs ++ z ∷ []) same

-- what is written at an index are the new terms
pub changed_is : (xs after : List Response) (to : NewTerms) (i size : ℕ) (price : ℤ) (arrival : ℕ) → after ≡ change_at i size price arrival xs → size ≡ to.size → price ≡ to.price → arrival ≡ to.arrival → after ≡ change_at i to.size to.price to.arrival xs
changed_is xs after to i size price arrival h s p r = h ∙ (λ k. change_at i (s k) (p k) (r k) xs)

-- the response of this member with this own number is the one that is changed
pub own_is_changed : (a : AuctionValues) (of : ResponseId) (to : NewTerms) (after : List Response) (i : ℕ) → after ≡ change_at i to.size to.price to.arrival a.stood → index_of of.member of.own_number a.stood ≡ Some i → after ≡ own_changed of.member of.own_number to.size to.price to.arrival a.stood
own_is_changed a of to after i h at = h ∙ sym (found_changed of.member of.own_number to.size to.price to.arrival a.stood i at)

-- and the one that is withdrawn
pub own_is_withdrawn : (a : AuctionValues) (of : ResponseId) (after : List Response) (i : ℕ) → after ≡ without_index i a.stood → index_of of.member of.own_number a.stood ≡ Some i → after ≡ without_own of.member of.own_number a.stood
own_is_withdrawn a of after i h at = h ∙ sym (found_without of.member of.own_number a.stood i at)

-- what is written as the floor is one that the auction may have
module _ (a : AuctionValues) (to floor : ℤ) (same : floor ≡ to) (may : may_move_floor a to ≡ true) where
  moves : may_move_floor a floor ≡ true
  moves = ap (may_move_floor a) same ∙ may

  pub moved_terms_ok : terms_ok a.order floor a.initiating ≡ true
  moved_terms_ok = (and_parts (terms_ok a.order floor a.initiating) _ moves).0

  pub moved_each_ok : each (response_ok a.order.size a.floor a.initiating) a.stood ≡ true → each (response_ok a.order.size floor a.initiating) a.stood ≡ true
  moved_each_ok ok = each_raised a.order.size a.floor floor a.initiating a.stood ok (not-true _ (and_parts (terms_ok a.order floor a.initiating) _ moves).1)
