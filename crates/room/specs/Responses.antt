-- Responding to the open auction, changing a response and withdrawing one.
use Rattle.std.specs.Prelude.{ℕ, ◌+◌, min, Bool, true, false, cond, List, [], ◌∷◌, ◌++◌, ℤ, is_some, Some, None, Ok, Err, Option, Result, int_lt, nat_le}
use Rattle.std.specs.Int.{int_max}
use Rattle.std.specs.Str.{byte}
use Rattle.market.specs.declared.side.Side.{Side}
use Rattle.market.specs.declared.side.Side.TheVariants.{Buy, Sell}
use Rattle.market.specs.Side.{turned_price}
use Rattle.allocation.specs.declared.response.Kind.{Kind}
use Rattle.allocation.specs.declared.response.Kind.TheVariants.{Sealed, Plain}
use Rattle.allocation.specs.declared.response.Response.{Response}
use Rattle.allocation.specs.declared.response.ResponseId.{ResponseId}
use Rattle.allocation.specs.Auction.{with_stood}
use Rattle.allocation.specs.Table.{own_response, own_changed, without_own}
use Rattle.room.specs.declared.answers.StoredTerms.{StoredTerms}
use Rattle.room.specs.declared.requests.ChangeRequest.{ChangeRequest}
use Rattle.room.specs.declared.requests.ResponseRequest.{ResponseRequest}
use Rattle.room.specs.declared.requests.WithdrawRequest.{WithdrawRequest}
use Rattle.room.specs.Checks.{respond_checks, change_checks, withdraw_checks}
use Rattle.room.specs.Clock.{timed_call}
use Rattle.room.specs.Refusals.{RefusalTold, refuse, unless, and_then, outcome}
use Rattle.room.specs.State.{OpenValues, RoomState, used_by, one_more, with_current, after_end}

-- Both buy, or both sell.
abbrev pub same_side : Side → Side → Bool
same_side Buy Buy = true
same_side Sell Sell = true
same_side _ _ = false

abbrev pub is_plain : Kind → Bool
is_plain Sealed = false
is_plain Plain = true

-- A price that is handed in, turned as the order's side asks.
abbrev pub turned_in : OpenValues → ℤ → ℤ
turned_in a price = turned_price a.values.order.side price

-- It is stored at the higher of its price and the floor,
abbrev pub stored_price : OpenValues → ℤ → ℤ
stored_price a price = int_max a.values.floor (turned_in a price)

-- and its size is capped at the order's.
abbrev pub stored_size : OpenValues → ℕ → ℕ
stored_size a size = min size a.values.order.size

-- A response as stored; arrivals count up from 1 in each auction, over responses and changes together.
abbrev pub as_stored : OpenValues → ResponseRequest → Response
as_stored a x =
    record {
      member = x.member;
      own_number = x.own_number;
      kind = x.kind;
      class = x.class;
      size = stored_size a x.size;
      price = stored_price a x.price;
      arrival = a.arrivals + 1;
    }

-- The answer tells the stored price, not turned, and the stored size.
abbrev pub terms_told : OpenValues → ℤ → ℕ → StoredTerms
terms_told a price size = record { price = turned_in a price; size = size }

-- Of a price and a size that are handed in, it tells them as they are stored.
abbrev pub stored_terms : OpenValues → ℤ → ℕ → StoredTerms
stored_terms a price size = terms_told a (stored_price a price) (stored_size a size)

-- The response of this member with this number, if it stands.
abbrev pub response_named : OpenValues → ResponseId → Option Response
response_named a id = own_response id.member id.own_number a.values.stood

-- An accepted response or change of a member leaves these responses standing, and counts.
abbrev pub with_counted : OpenValues → ℕ → List Response → OpenValues
with_counted a member xs =
    record a { values = with_stood a.values xs; arrivals = a.arrivals + 1; used = one_more member a.used }

-- A withdrawal leaves these responses standing.
abbrev pub with_remaining : OpenValues → List Response → OpenValues
with_remaining a xs = record a { values = with_stood a.values xs }

-- A plain response priced below the floor.
abbrev pub plain_below_floor : OpenValues → ResponseRequest → Bool
plain_below_floor a x = cond (is_plain x.kind) (int_lt (turned_in a x.price) a.values.floor) false

-- 21: no auction is open.
abbrev pub open_now : Option OpenValues → Result OpenValues ℕ
open_now None = Err 21
open_now (Some a) = Ok a

-- 22: the response is on the order's side.
abbrev pub side_checked : OpenValues → Side → Option ℕ → Option ℕ
side_checked a side = refuse (same_side side a.values.order.side) 22

-- 23: the price exceeds the initiating price.
abbrev pub above_checked : OpenValues → ℤ → Option ℕ → Option ℕ
above_checked a price = refuse (int_lt a.values.initiating (turned_in a price)) 23

-- 24: the member has a response of this own number standing.
abbrev pub in_use_checked : OpenValues → ℕ → ℕ → Option ℕ → Option ℕ
in_use_checked a member own_number = refuse (is_some (own_response member own_number a.values.stood)) 24

-- 27: a member has 10,000 accepted responses and changes in an auction.
abbrev pub used_checked : OpenValues → ℕ → Option ℕ → Option ℕ
used_checked a member = refuse (nat_le 10000 (used_by member a.used)) 27

-- 25: the member has no response of this own number standing.
abbrev pub standing_now : Option Response → Result Response ℕ
standing_now None = Err 25
standing_now (Some x) = Ok x

-- 26: it is plain.
abbrev pub plain_checked : Response → Option ℕ → Option ℕ
plain_checked x = refuse (is_plain x.kind) 26

-- What the open auction refuses a response for: 22, 23, 24, 27.
abbrev pub response_refusal : OpenValues → ResponseRequest → Option ℕ
response_refusal a x =
    side_checked a x.side (above_checked a x.price (in_use_checked a x.member x.own_number (used_checked a x.member None)))

-- What it refuses a change of this standing response for: 26, 23, 27.
abbrev pub change_refusal : OpenValues → Response → ChangeRequest → Option ℕ
change_refusal a y x = plain_checked y (above_checked a x.price (used_checked a x.member None))

-- The open auction, if it takes the response: 21, then 22 to 27.
abbrev pub responding_to : Option OpenValues → ResponseRequest → Result OpenValues ℕ
responding_to current x = and_then (open_now current) (λ a. unless (response_refusal a x) (Ok a))

-- The open auction, if the response may be changed: 21, 25, 26, 23, 27.
abbrev pub changing_in : Option OpenValues → ChangeRequest → Result OpenValues ℕ
changing_in current x =
    and_then (open_now current)
    (λ a. and_then (standing_now (own_response x.member x.own_number a.values.stood))
    (λ y. unless (change_refusal a y x) (Ok a)))

-- The open auction and the response, if it may be withdrawn: 21, 25, 26.
abbrev pub withdrawing_from : Option OpenValues → WithdrawRequest → Result (OpenValues × Response) ℕ
withdrawing_from current x =
    and_then (open_now current)
    (λ a. and_then (standing_now (own_response x.member x.own_number a.values.stood))
    (λ y. unless (plain_checked y None) (Ok (a, y))))

-- The auction with the response behind the others.
abbrev pub with_response : OpenValues → ResponseRequest → OpenValues
with_response a x = with_counted a x.member (a.values.stood ++ as_stored a x ∷ [])

-- The auction with that one response changed.
abbrev pub with_change : OpenValues → ChangeRequest → OpenValues
with_change a x =
    with_counted a x.member
    (own_changed x.member x.own_number (stored_size a x.size) (stored_price a x.price) (a.arrivals + 1) a.values.stood)

-- The auction without that one response.
abbrev pub with_withdrawal : OpenValues → WithdrawRequest → OpenValues
with_withdrawal a x = with_remaining a (without_own x.member x.own_number a.values.stood)

-- The response is stored; a plain one priced below the floor then ends the auction, cause E.
abbrev pub after_response : {P Q : Type 0} → RoomState P Q → OpenValues → ResponseRequest → RoomState P Q
after_response s a x =
    let t = with_current (with_response a x) s in cond (plain_below_floor a x) (after_end (byte "E") t) t

module _ {P F Q : Type 0} where
  abbrev pub responding : RoomState P Q → ResponseRequest → RoomState P Q × Result StoredTerms (RefusalTold F)
  responding s x =
      outcome (responding_to s.current x) s (λ a. after_response s a x) (λ a. stored_terms a x.price x.size)

  abbrev pub respond_call : RoomState P Q → ResponseRequest → RoomState P Q × Result StoredTerms (RefusalTold F)
  respond_call s x = timed_call (respond_checks x) s x.time (λ u. responding u x)

  -- A change stores a new price and size likewise, with a new arrival number.
  abbrev pub changing : RoomState P Q → ChangeRequest → RoomState P Q × Result StoredTerms (RefusalTold F)
  changing s x =
      outcome (changing_in s.current x) s
      (λ a. with_current (with_change a x) s)
      (λ a. stored_terms a x.price x.size)

  abbrev pub change_call : RoomState P Q → ChangeRequest → RoomState P Q × Result StoredTerms (RefusalTold F)
  change_call s x = timed_call (change_checks x) s x.time (λ u. changing u x)

  -- A withdrawal answers what was stored.
  abbrev pub withdrawing : RoomState P Q → WithdrawRequest → RoomState P Q × Result StoredTerms (RefusalTold F)
  withdrawing s x =
      outcome (withdrawing_from s.current x) s
      (λ f. with_current (with_withdrawal f.0 x) s)
      (λ f. terms_told f.0 f.1.price f.1.size)

  abbrev pub withdraw_call : RoomState P Q → WithdrawRequest → RoomState P Q × Result StoredTerms (RefusalTold F)
  withdraw_call s x = timed_call (withdraw_checks x) s x.time (λ u. withdrawing u x)
