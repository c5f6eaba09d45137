-- What a member can know of a room, and how that goes on from call to call. A member knows of a room all but the guarantee
-- and the other members' responses; and what it knows after a call, and what it is shown of the answer, is computed here
-- from what it knew before, the call without what is hidden, whether the call opened an auction, and whether one ended.
-- A name that ends in -known is the room's function of that name, on what is known.
use Rattle.std.proofs.Common.{ℕ, zero, suc, ◌+◌, min, max, Bool, true, false, cond, not, eqb, leb, List, [], ◌∷◌, ◌++◌, map, length, ℤ, is_some, Some, None, Ok, Err, Option, Result}
use lib.Signed.{lt_z}
use Rattle.std.specs.Int.{int_max}
use Rattle.std.specs.Option.{option_map}
use Rattle.market.specs.declared.quote.Quote.{Quote}
use Rattle.market.specs.declared.side.Side.{Side}
use Rattle.market.specs.Range.{RangePrices, permitted_range, turned_quote}
use Rattle.market.specs.Side.{turned_price}
use Rattle.allocation.specs.declared.order.PairedOrder.{PairedOrder}
use Rattle.allocation.specs.declared.response.Response.{Response}
use Rattle.room.specs.declared.answers.AuctionView.{AuctionView}
use Rattle.room.specs.declared.answers.ClaimNumbers.{ClaimNumbers}
use Rattle.room.specs.declared.answers.StoredTerms.{StoredTerms}
use Rattle.room.specs.declared.answers.View.{View}
use Rattle.room.specs.declared.requests.ChangeRequest.{ChangeRequest}
use Rattle.room.specs.declared.requests.ResponseRequest.{ResponseRequest}
use Rattle.room.specs.declared.requests.WithdrawRequest.{WithdrawRequest}
use Rattle.room.specs.Checks.{open_checks, respond_checks, change_checks, withdraw_checks, time_checks, collect_checks}
use Rattle.room.specs.Openings.{none_used}
use Rattle.room.specs.Refusals.{RefusalTold, by_number, refuse, unless, and_then, outcome}
use Rattle.allocation.specs.Table.{own_response, own_changed, without_own}
use Rattle.room.specs.Responses.{same_side, is_plain, standing_now, plain_checked}
use Rattle.room.specs.State.{OpenValues, EndedValues, RoomState}
use Rattle.room.specs.Ticks.{floor_now}
use Rattle.room.specs.World.{World}
use Rattle.session.specs.declared.call.Call.{Call}
use Rattle.session.specs.declared.call.Call.TheVariants.{Open, Respond, Change, Withdraw, Tick, Halt, Resume, Clock, Look, Collect}
use Rattle.session.specs.Runs.{Answer, Stored, Looked, answer_of_result}

-- A response without its arrival number, which would tell of the others' responses and changes.
abbrev pub unnumbered : Response → Response
unnumbered x = record x { arrival = 0 }

-- The responses of a member.
abbrev pub own_rows : ℕ → List Response → List Response
own_rows u [] = []
own_rows u (x ∷ xs) = cond (eqb x.member u) (unnumbered x ∷ own_rows u xs) (own_rows u xs)

-- What stands at an index of a list, from 0.
abbrev pub entry : ℕ → List ℕ → Option ℕ
entry i [] = None
entry zero (n ∷ ns) = Some n
entry (suc i) (n ∷ ns) = entry i ns

-- A member's own count of accepted responses and changes. There is no member 0.
abbrev pub own_count : ℕ → List ℕ → Option ℕ
own_count zero used = None
own_count (suc i) used = entry i used

abbrev pub counted : Option ℕ → ℕ
counted None = 0
counted (Some n) = n

-- Of auctions that wait, only their numbers.
abbrev pub numbers : List EndedValues → List ℕ
numbers es = map (λ (e : EndedValues). e.number) es

-- What a member can know of the open auction.
pub record KnownAuction : Type 0 where
  pub number : ℕ
  pub deadline : ℕ
  pub side : Side
  pub size : ℕ
  pub floor : ℤ
  pub initiating : ℤ
  pub mine : List Response
  pub count : Option ℕ

-- What a member can know of a room.
pub record Known (P Q : Type 0) : Type 0 where
  pub number : ℕ
  pub time : ℕ
  pub halted : Bool
  pub position : P
  pub source : Q
  pub auction : Option KnownAuction
  pub waiting : List ℕ
  pub opened : ℕ

abbrev pub known_auction : ℕ → OpenValues → KnownAuction
known_auction u a = record {
  number = a.number;
  deadline = a.deadline;
  side = a.values.order.side;
  size = a.values.order.size;
  floor = a.values.floor;
  initiating = a.values.initiating;
  mine = own_rows u a.values.stood;
  count = own_count u a.used;
}

abbrev pub known : {P Q : Type 0} → ℕ → RoomState P Q → Known P Q
known u s = record {
  number = s.number;
  time = s.time;
  halted = s.halted;
  position = s.position;
  source = s.source;
  auction = option_map (known_auction u) s.current;
  waiting = numbers s.waiting;
  opened = s.opened;
}

abbrev pub closed_known : Option KnownAuction → List ℕ → List ℕ
closed_known None ns = ns
closed_known (Some a) ns = ns ++ a.number ∷ []

abbrev pub due_known : ℕ → Option KnownAuction → Bool
due_known t None = false
due_known t (Some a) = leb a.deadline t

abbrev pub is_number_known : ℕ → Option KnownAuction → Bool
is_number_known n None = false
is_number_known n (Some a) = eqb a.number n

abbrev pub numbered_known : ℕ → List ℕ → Option ℕ
numbered_known n [] = None
numbered_known n (e ∷ es) = cond (eqb e n) (Some e) (numbered_known n es)

abbrev pub without_number_known : ℕ → List ℕ → List ℕ
without_number_known n [] = []
without_number_known n (e ∷ es) = cond (eqb e n) es (e ∷ without_number_known n es)

-- The open auction at the floor that a tick shows.
abbrev pub refloored : Quote → KnownAuction → KnownAuction
refloored q a = record a { floor = floor_now (turned_quote a.side q).floor a.floor }

-- A new auction, by what is known of its order.
abbrev pub new_known : ℕ → ℕ → ℕ → PairedOrder → RangePrices → KnownAuction
new_known u number deadline o r = record {
  number = number;
  deadline = deadline;
  side = o.side;
  size = o.size;
  floor = r.floor;
  initiating = r.initiating;
  mine = [];
  count = own_count u none_used;
}

-- A member's own price and size as stored.
abbrev pub price_known : KnownAuction → ℤ → ℤ
price_known a price = int_max a.floor (turned_price a.side price)

abbrev pub size_known : KnownAuction → ℕ → ℕ
size_known a size = min size a.size

abbrev pub terms_known : KnownAuction → ℤ → ℕ → StoredTerms
terms_known a price size = record { price = turned_price a.side price; size = size }

-- After an accepted response or change of the member, these are its responses, and it counts.
abbrev pub counted_known : KnownAuction → List Response → KnownAuction
counted_known a xs = record a { mine = xs; count = option_map (λ n. n + 1) a.count }

abbrev pub row_known : KnownAuction → ResponseRequest → Response
row_known a x =
    record { member = x.member; own_number = x.own_number; kind = x.kind; class = x.class; size = size_known a x.size; price = price_known a x.price; arrival = 0 }

abbrev pub plain_below_known : KnownAuction → ResponseRequest → Bool
plain_below_known a x = cond (is_plain x.kind) (lt_z (turned_price a.side x.price) a.floor) false

abbrev pub with_response_known : KnownAuction → ResponseRequest → KnownAuction
with_response_known a x = counted_known a (a.mine ++ row_known a x ∷ [])

abbrev pub with_change_known : KnownAuction → ChangeRequest → KnownAuction
with_change_known a x = counted_known a (own_changed x.member x.own_number (size_known a x.size) (price_known a x.price) 0 a.mine)

abbrev pub with_withdrawal_known : KnownAuction → WithdrawRequest → KnownAuction
with_withdrawal_known a x = record a { mine = without_own x.member x.own_number a.mine }

-- The refusals of a member's own calls, by what it knows.
abbrev pub open_now_known : Option KnownAuction → Result KnownAuction ℕ
open_now_known None = Err 21
open_now_known (Some a) = Ok a

abbrev pub above_known : KnownAuction → ℤ → Option ℕ → Option ℕ
above_known a price = refuse (lt_z a.initiating (turned_price a.side price)) 23

abbrev pub used_known : KnownAuction → Option ℕ → Option ℕ
used_known a = refuse (leb 10000 (counted a.count)) 27

abbrev pub responding_to_known : Option KnownAuction → ResponseRequest → Result KnownAuction ℕ
responding_to_known current x =
    and_then (open_now_known current)
    (λ a. unless (refuse (same_side x.side a.side) 22 (above_known a x.price (refuse (is_some (own_response x.member x.own_number a.mine)) 24 (used_known a None)))) (Ok a))

abbrev pub changing_in_known : Option KnownAuction → ChangeRequest → Result KnownAuction ℕ
changing_in_known current x =
    and_then (open_now_known current)
    (λ a. and_then (standing_now (own_response x.member x.own_number a.mine))
    (λ y. unless (plain_checked y (above_known a x.price (used_known a None))) (Ok a)))

abbrev pub withdrawing_from_known : Option KnownAuction → WithdrawRequest → Result (KnownAuction × Response) ℕ
withdrawing_from_known current x =
    and_then (open_now_known current)
    (λ a. and_then (standing_now (own_response x.member x.own_number a.mine))
    (λ y. unless (plain_checked y None) (Ok (a, y))))

-- The number of the auction that a claim collects.
abbrev pub waiting_known : Option ℕ → Result ℕ ℕ
waiting_known None = Err 42
waiting_known (Some n) = Ok n

abbrev pub collectable_known : {P Q : Type 0} → Known P Q → ClaimNumbers → ℕ → Result ℕ ℕ
collectable_known k claim rows =
    unless (collect_checks rows)
    (unless (refuse (not (eqb claim.room k.number)) 42 (refuse (is_number_known claim.auction k.auction) 41 None))
    (waiting_known (numbered_known claim.auction k.waiting)))

abbrev pub view_known : KnownAuction → AuctionView
view_known a = record { number = a.number; side = a.side; size = a.size; initiating = turned_price a.side a.initiating }

module _ {P Q : Type 0} where
  abbrev pub at_time_known : ℕ → Known P Q → Known P Q
  at_time_known t k = record k { time = t }

  abbrev pub at_position_known : P → Known P Q → Known P Q
  at_position_known p k = record k { position = p }

  abbrev pub with_halted_known : Bool → Known P Q → Known P Q
  with_halted_known b k = record k { halted = b }

  abbrev pub with_auction_known : Option KnownAuction → Known P Q → Known P Q
  with_auction_known a k = record k { auction = a }

  abbrev pub with_waiting_known : List ℕ → Known P Q → Known P Q
  with_waiting_known ns k = record k { waiting = ns }

  -- The open auction, if there is one, ends.
  abbrev pub ended_known : Known P Q → Known P Q
  ended_known k = record k { auction = None; waiting = closed_known k.auction k.waiting }

  -- It ends where that is said.
  abbrev pub settled : Bool → Known P Q → Known P Q
  settled ends k = cond ends (ended_known k) k

  abbrev pub clocked_known : Known P Q → ℕ → Known P Q
  clocked_known k t = let j = at_time_known (max k.time t) k in settled (due_known j.time j.auction) j

  -- A timed call, as far as the room goes.
  abbrev pub later_known : Option ℕ → Known P Q → ℕ → (Known P Q → Known P Q) → Known P Q
  later_known None k t business = business (clocked_known k t)
  later_known (Some e) k t business = k

  -- A timed call with its answer.
  abbrev pub timed_known : {Y F : Type 0} → Option ℕ → Known P Q → ℕ → (Known P Q → Known P Q × Result Y (RefusalTold F)) → Known P Q × Result Y (RefusalTold F)
  timed_known None k t business = business (clocked_known k t)
  timed_known (Some n) k t business = (k, Err (by_number n))

  abbrev pub responded_known : Known P Q → KnownAuction → ResponseRequest → Known P Q
  responded_known k a x = settled (plain_below_known a x) (with_auction_known (Some (with_response_known a x)) k)

  abbrev pub look_known : Known P Q → View
  look_known k = record { time = k.time; halted = k.halted; waiting = length k.waiting; auction = option_map view_known k.auction }

  -- A collecting that is accepted takes its auction away.
  abbrev pub collected_by : Result ℕ ℕ → ℕ → Known P Q → Known P Q
  collected_by (Ok _) n k = with_waiting_known (without_number_known n k.waiting) k
  collected_by (Err e) n k = k

  module _ {F : Type 0} where
    -- A member's own response, change and withdrawal.
    abbrev pub responding_known : Known P Q → ResponseRequest → Known P Q × Result StoredTerms (RefusalTold F)
    responding_known k x =
        outcome (responding_to_known k.auction x) k (λ a. responded_known k a x) (λ a. terms_known a (price_known a x.price) (size_known a x.size))

    abbrev pub changing_known : Known P Q → ChangeRequest → Known P Q × Result StoredTerms (RefusalTold F)
    changing_known k x =
        outcome (changing_in_known k.auction x) k (λ a. with_auction_known (Some (with_change_known a x)) k) (λ a. terms_known a (price_known a x.price) (size_known a x.size))

    abbrev pub withdrawing_known : Known P Q → WithdrawRequest → Known P Q × Result StoredTerms (RefusalTold F)
    withdrawing_known k x =
        outcome (withdrawing_from_known k.auction x) k (λ f. with_auction_known (Some (with_withdrawal_known f.0 x)) k) (λ f. terms_known f.0 f.1.price f.1.size)

    -- All of an answer is shown.
    abbrev pub shown_whole : Known P Q × Result StoredTerms (RefusalTold F) → Known P Q × Option (Answer F)
    shown_whole y = (y.0, Some (answer_of_result Stored y.1))

module _ {P T F Q : Type 0} (w : World P T F Q) (u : ℕ) where
  -- An opening that was accepted. (One that has no range was not.)
  abbrev pub opened_known : Result RangePrices ℕ → Known P Q → PairedOrder → Known P Q
  opened_known (Ok r) k o = record k {
    source = w.source.next k.source;
    auction = Some (new_known u (k.opened + 1) (k.time + w.source.draws k.source) o r);
    waiting = closed_known k.auction k.waiting;
    opened = k.opened + 1;
  }
  opened_known (Err e) k o = k

  abbrev pub opening_known : Bool → Known P Q → PairedOrder → Known P Q
  opening_known opens k o = cond opens (opened_known (permitted_range o.side o.limit (w.market.shows k.position)) k o) k

  -- A tick, where it is said whether it ends the auction.
  abbrev pub ticking_known_by : Result (Unit {0}) F → Bool → Known P Q → T → Known P Q
  ticking_known_by (Ok _) ends k t =
      let p = w.market.next k.position t in
      let j = at_position_known p k in
      cond ends (ended_known j) (with_auction_known (option_map (refloored (w.market.shows p)) j.auction) j)
  ticking_known_by (Err f) ends k t = k

  abbrev pub ticking_known : Bool → Known P Q → T → Known P Q
  ticking_known ends k t = ticking_known_by (w.market.answer k.position t) ends k t

  -- What the member knows after a call, and what it is shown of the answer.
  abbrev pub known_step : Bool → Bool → Known P Q → Call T → Known P Q × Option (Answer F)
  known_step opens ends k (Open x) = (later_known (open_checks x) k x.time (λ j. opening_known opens j x.order), None)
  known_step opens ends k (Respond x) =
      cond (eqb x.member u)
      (shown_whole (timed_known (respond_checks x) k x.time (λ j. responding_known j x)))
      (later_known (respond_checks x) k x.time (settled ends), None)
  known_step opens ends k (Change x) =
      cond (eqb x.member u)
      (shown_whole (timed_known (change_checks x) k x.time (λ j. changing_known j x)))
      (later_known (change_checks x) k x.time (λ j. j), None)
  known_step opens ends k (Withdraw x) =
      cond (eqb x.member u)
      (shown_whole (timed_known (withdraw_checks x) k x.time (λ j. withdrawing_known j x)))
      (later_known (withdraw_checks x) k x.time (λ j. j), None)
  known_step opens ends k (Tick t x) = (later_known (time_checks t) k t (λ j. ticking_known ends j x), None)
  known_step opens ends k (Halt t) = (later_known (time_checks t) k t (λ j. with_halted_known true (ended_known j)), None)
  known_step opens ends k (Resume t) = (later_known (time_checks t) k t (λ j. with_halted_known false j), None)
  known_step opens ends k (Clock t) = (later_known (time_checks t) k t (λ j. j), None)
  known_step opens ends k Look = (k, Some (Looked (look_known k)))
  known_step opens ends k (Collect c n) = (collected_by (collectable_known k c n) c.auction k, None)
