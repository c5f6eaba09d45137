-- How a price and a size are stored, and what a request whose parts are within their limits has passed by the
-- state of the open auction when it is carried out there.
use Rattle.std.specs.Prelude.{◌≡◌, ℕ, ◌+◌, true, false, ℤ, is_some, int_lt, nat_le}
use Rattle.allocation.specs.declared.response.NewTerms.{NewTerms}
use Rattle.allocation.specs.Table.{own_response}
use Rattle.room.specs.declared.requests.ChangeRequest.{ChangeRequest}
use Rattle.room.specs.declared.requests.ResponseRequest.{ResponseRequest}
use Rattle.room.specs.Responses.{turned_in, stored_price, stored_size}
use Rattle.room.specs.State.{OpenValues, used_by}

-- A price and a size that are handed in, as they are stored, with the next arrival number.
abbrev pub next_terms : OpenValues → ℤ → ℕ → NewTerms
next_terms a price size = record { size = stored_size a size; price = stored_price a price; arrival = a.arrivals + 1 }

-- The price is not above the initiating price, and the member has some of its 10,000 left.
pub record TermsPass (a : OpenValues) (member : ℕ) (price : ℤ) : Type 0 where
  pub not_above : int_lt a.values.initiating (turned_in a price) ≡ false
  pub some_left : nat_le 10000 (used_by member a.used) ≡ false

-- A response: its own number is not in use.
pub record ResponsePasses (a : OpenValues) (x : ResponseRequest) : Type 0 where
  pub terms : TermsPass a x.member x.price
  pub not_in_use : is_some (own_response x.member x.own_number a.values.stood) ≡ false

-- A change: the response stands.
pub record ChangePasses (a : OpenValues) (x : ChangeRequest) : Type 0 where
  pub terms : TermsPass a x.member x.price
  pub stands : is_some (own_response x.member x.own_number a.values.stood) ≡ true
