-- What a history tells: from calls and what they were answered, and from what market and source answer at the positions to
-- which accepted ticks and accepted openings lead. A history is a list of exchanges, the newest first; nothing of a room is
-- in it.
use Rattle.std.specs.Prelude.{ℕ, zero, suc, ◌+◌, max, Bool, true, false, cond, not, ◌&&◌, ◌||◌, List, [], ◌∷◌, ◌++◌, length, ℤ, is_some, Some, None, Option, ◌==◌, int_lt, nat_le}
use Rattle.std.specs.Int.{int_max, int_min}
use Rattle.std.specs.Option.{option_map}
use Rattle.std.specs.Str.{byte}
use Rattle.market.specs.declared.range.TurnedQuote.{TurnedQuote}
use Rattle.market.specs.declared.side.Side.{Side}
use Rattle.market.specs.Range.{RangePrices, turned_quote}
use Rattle.market.specs.Side.{turned_price}
use Rattle.allocation.specs.declared.order.Guarantee.{Guarantee}
use Rattle.allocation.specs.declared.order.GuaranteeKind.{GuaranteeKind}
use Rattle.allocation.specs.declared.order.GuaranteeKind.TheVariants.{SingleStop, AutoMatchLimit}
use Rattle.allocation.specs.declared.order.PairedOrder.{PairedOrder}
use Rattle.allocation.specs.declared.response.Kind.{Kind}
use Rattle.allocation.specs.declared.response.Kind.TheVariants.{Sealed, Plain}
use Rattle.allocation.specs.FillLaws.{StoodResponse}
use Rattle.room.specs.declared.answers.AuctionView.{AuctionView}
use Rattle.room.specs.declared.answers.StoredTerms.{StoredTerms}
use Rattle.room.specs.declared.answers.View.{View}
use Rattle.room.specs.declared.requests.ResponseRequest.{ResponseRequest}
use Rattle.room.specs.World.{World}
use Rattle.session.specs.declared.call.Call.{Call}
use Rattle.session.specs.declared.call.Call.TheVariants.{Open, Respond, Change, Withdraw, Tick, Halt, Resume, Collect}
use Rattle.session.specs.Inputs.{first_that_holds, input_reason}
use Rattle.session.specs.Runs.{Answer, Opened, Stored, Accepted, Collected, given_time}

-- A call and what it was answered.
pub record Exchange (T F : Type 0) : Type 0 where
  pub call : Call T
  pub answer : Answer F

-- A price that is shown is above another; no price is above nothing.
abbrev pub is_above : Option ℤ → ℤ → Bool
is_above None z = false
is_above (Some f) z = int_lt z f

-- A price that is shown is below another; no price is below nothing.
abbrev pub is_below : Option ℤ → ℤ → Bool
is_below None z = false
is_below (Some f) z = int_lt f z

-- A price that is shown, and where none is the one before.
abbrev pub shown_or : Option ℤ → ℤ → ℤ
shown_or None before = before
shown_or (Some f) before = f

-- The floor has passed a single stop. An auto-match limit may be passed.
abbrev pub stop_passed : GuaranteeKind → Option ℤ → ℤ → Bool
stop_passed SingleStop floor stop = is_above floor stop
stop_passed AutoMatchLimit floor stop = false

abbrev pub is_plain_kind : Kind → Bool
is_plain_kind Sealed = false
is_plain_kind Plain = true

-- The number of the auction that an accepted opening opened.
abbrev pub opened_number : {F : Type 0} → Answer F → Option ℕ
opened_number (Opened c) = Some c.auction
opened_number _ = None

-- The stored price and size that an accepted response, change or withdrawal was told.
abbrev pub told_terms : {F : Type 0} → Answer F → Option StoredTerms
told_terms (Stored x) = Some x
told_terms _ = None

-- A tick, a halt, a resume or a clock call was accepted.
abbrev pub is_accepted : {F : Type 0} → Answer F → Bool
is_accepted Accepted = true
is_accepted _ = false

-- A collecting was accepted.
abbrev pub is_collected : {F : Type 0} → Answer F → Bool
is_collected (Collected k fs) = true
is_collected _ = false

-- It is this number.
abbrev pub is_same : ℕ → Option ℕ → Bool
is_same n None = false
is_same n (Some k) = k == n

-- The order that an opening hands in, not turned.
abbrev pub order_in : {T : Type 0} → Call T → Option PairedOrder
order_in (Open x) = Some x.order
order_in _ = None

-- The tick that a call hands in.
abbrev pub tick_in : {T : Type 0} → Call T → Option T
tick_in (Tick t x) = Some x
tick_in _ = None

-- A halt.
abbrev pub is_halt : {T : Type 0} → Call T → Bool
is_halt (Halt t) = true
is_halt _ = false

-- The auction whose claim a call hands in.
abbrev pub auction_in : {T : Type 0} → Call T → Option ℕ
auction_in (Collect c n) = Some c.auction
auction_in _ = None

-- A halt halts, a resume resumes, and no other call does either.
abbrev pub halted_by : {T : Type 0} → Call T → Bool → Bool
halted_by (Halt t) before = true
halted_by (Resume t) before = false
halted_by _ before = before

-- A response as it was answered: the stored price, not turned, and the stored size; and its arrival.
abbrev pub response_then : ResponseRequest → StoredTerms → ℕ → StoodResponse
response_then x t arrival = record { member = x.member; own_number = x.own_number; price = t.price; class = x.class; kind = x.kind; size = t.size; arrival = arrival }

-- The same response with another stored price and size: it counts as last stored, and has arrived then.
abbrev pub restored_then : StoredTerms → ℕ → StoodResponse → StoodResponse
restored_then t arrival r = record r { price = t.price; size = t.size; arrival = arrival }

-- The response of this member with this own number.
abbrev pub is_own : ℕ → ℕ → StoodResponse → Bool
is_own member own_number r = r.member == member && r.own_number == own_number

-- The responses with that one changed.
abbrev pub changed_then : ℕ → ℕ → StoredTerms → ℕ → List StoodResponse → List StoodResponse
changed_then member own_number t arrival [] = []
changed_then member own_number t arrival (r ∷ rs) = cond (is_own member own_number r) (restored_then t arrival r ∷ rs) (r ∷ changed_then member own_number t arrival rs)

-- The responses without that one.
abbrev pub withdrawn_then : ℕ → ℕ → List StoodResponse → List StoodResponse
withdrawn_then member own_number [] = []
withdrawn_then member own_number (r ∷ rs) = cond (is_own member own_number r) rs (r ∷ withdrawn_then member own_number rs)

-- What a call that was answered with a stored price and size makes of the responses that stood, where this is the next
-- arrival.
abbrev pub stood_after : {T : Type 0} → Call T → StoredTerms → ℕ → List StoodResponse → List StoodResponse
stood_after (Respond x) t arrival rs = rs ++ response_then x t arrival ∷ []
stood_after (Change x) t arrival rs = changed_then x.member x.own_number t arrival rs
stood_after (Withdraw x) t arrival rs = withdrawn_then x.member x.own_number rs
stood_after _ t arrival rs = rs

-- The members of accepted responses and changes, with that of this call.
abbrev pub storing_after : {T : Type 0} → Call T → List ℕ → List ℕ
storing_after (Respond x) ms = x.member ∷ ms
storing_after (Change x) ms = x.member ∷ ms
storing_after _ ms = ms

-- A plain response that was priced below the floor, turned.
abbrev pub plain_below : {T : Type 0} → Side → ℤ → Call T → Bool
plain_below side floor (Respond x) = is_plain_kind x.kind && int_lt (turned_price side x.price) floor
plain_below side floor _ = false

-- A price that is shown is above the turned price of one of these.
abbrev pub above_one : Side → Option ℤ → List StoodResponse → Bool
above_one side shown [] = false
above_one side shown (r ∷ rs) = is_above shown (turned_price side r.price) || above_one side shown rs

-- An accepted opening: the order as handed in; its range by what its side was shown then, from the floor to the lower of
-- limit and contra price; the time; and the interval that the source answered.
pub record OpeningFacts : Type 0 where
  pub order : PairedOrder
  pub range : RangePrices
  pub time : ℕ
  pub interval : ℕ

-- The guarantee as stored: turned, and not below the floor at the opening.
abbrev pub guarantee_of : OpeningFacts → Guarantee
guarantee_of f = record { kind = f.order.guarantee.kind; price = int_max f.range.floor (turned_price f.order.side f.order.guarantee.price) }

abbrev pub deadline_of : OpeningFacts → ℕ
deadline_of f = f.time + f.interval

-- The story of an auction so far: how it was opened; its floor; the responses that stand, each as last stored; the members
-- of the responses and changes that it has accepted, the last first; and, once it has ended, the letter of the cause.
pub record Story : Type 0 where
  pub opening : OpeningFacts
  pub floor : ℤ
  pub stood : List StoodResponse
  pub storers : List ℕ
  pub ended : Option ℕ

-- An arrival is how many responses and changes the auction has accepted with the one that arrives.
abbrev pub next_arrival : Story → ℕ
next_arrival s = length s.storers + 1

-- A new auction's floor is that of its range; nobody has responded.
abbrev pub new_story : OpeningFacts → Story
new_story f = record { opening = f; floor = f.range.floor; stood = []; storers = []; ended = None }

abbrev pub range_shown : PairedOrder → ℤ → ℤ → RangePrices
range_shown o floor contra = record { side = o.side; floor = floor; contra = contra; initiating = int_min (turned_price o.side o.limit) contra }

-- Where a side shows no price there is none.
abbrev pub story_by : PairedOrder → Option ℤ → Option ℤ → ℕ → ℕ → Option Story
story_by o None contra time interval = None
story_by o (Some floor) None time interval = None
story_by o (Some floor) (Some contra) time interval = Some (new_story (record { order = o; range = range_shown o floor contra; time = time; interval = interval }))

-- The letter of the cause for which it ended, if it has.
abbrev pub ending_cause : Option Story → Option ℕ
ending_cause None = None
ending_cause (Some s) = s.ended

-- It has ended.
abbrev pub is_over : Option Story → Bool
is_over None = false
is_over (Some s) = is_some s.ended

-- The story of an auction that has not ended.
abbrev pub going_on : Option Story → Option Story
going_on None = None
going_on (Some s) = cond (is_some s.ended) None (Some s)

-- The story of an auction whose deadline a time does not reach.
abbrev pub not_due : ℕ → Option Story → Option Story
not_due t None = None
not_due t (Some s) = cond (nat_le (deadline_of s.opening) t) None (Some s)

-- The market's next position, where an accepted call handed in a tick.
abbrev pub position_then : {P T : Type 0} → (P → T → P) → Bool → Option T → P → P
position_then next accepted None p = p
position_then next accepted (Some t) p = cond accepted (next p t) p

abbrev pub time_or_zero : Option ℕ → ℕ
time_or_zero None = 0
time_or_zero (Some t) = t

-- The time to which a call can move a room's: that of a timed call that passes its input checks.
abbrev pub clock_time : {T : Type 0} → Call T → ℕ
clock_time c = cond (is_some (input_reason c)) 0 (time_or_zero (given_time c))

-- What the open auction shows to everybody: its number, side, size and initiating price, not turned, those of its opening.
abbrev pub story_view : ℕ → Story → AuctionView
story_view n s =
    record { number = n; side = s.opening.order.side; size = s.opening.order.size; initiating = turned_price s.opening.order.side s.opening.range.initiating }

module _ {T F : Type 0} where
  -- An opening of this auction was accepted.
  abbrev pub opens : ℕ → Exchange T F → Bool
  opens n x = is_same n (opened_number x.answer)

  -- This auction was collected by an accepted collecting.
  abbrev pub collects : ℕ → Exchange T F → Bool
  collects n x = is_collected x.answer && is_same n (auction_in x.call)

  -- An accepted tick.
  abbrev pub is_accepted_tick : Exchange T F → Bool
  is_accepted_tick x = is_accepted x.answer && is_some (tick_in x.call)

  -- A: another opening is accepted.
  abbrev pub is_accepted_opening : Exchange T F → Bool
  is_accepted_opening x = is_some (opened_number x.answer)

  -- H: a halt is accepted.
  abbrev pub is_accepted_halt : Exchange T F → Bool
  is_accepted_halt x = is_accepted x.answer && is_halt x.call

  -- The room's time: the latest time of a timed call that passed its input checks, 0 before the first.
  abbrev pub time_then : List (Exchange T F) → ℕ
  time_then [] = 0
  time_then (x ∷ past) = max (time_then past) (clock_time x.call)

  -- It is halted as the last accepted halt or resume says.
  abbrev pub halted_then : List (Exchange T F) → Bool
  halted_then [] = false
  halted_then (x ∷ past) = cond (is_accepted x.answer) (halted_by x.call (halted_then past)) (halted_then past)

  -- How many openings were accepted: auctions are counted from 1, so it is the number of the last one.
  abbrev pub openings : List (Exchange T F) → ℕ
  openings [] = 0
  openings (x ∷ past) = cond (is_accepted_opening x) 1 0 + openings past

  -- It was collected by some exchange.
  abbrev pub was_collected : ℕ → List (Exchange T F) → Bool
  was_collected n [] = false
  was_collected n (x ∷ past) = collects n x || was_collected n past

  -- E: a plain response priced below the floor is accepted.
  abbrev pub plain_response_below_floor : Story → Exchange T F → Bool
  plain_response_below_floor s x = is_some (told_terms x.answer) && plain_below s.opening.order.side s.floor x.call

module _ {P T F Q : Type 0} (w : World P T F Q) (p : P) (q : Q) where
  -- The market's position: accepted ticks move it, from where the room was made on.
  abbrev pub market_at : List (Exchange T F) → P
  market_at [] = p
  market_at (x ∷ past) = position_then w.market.next (is_accepted x.answer) (tick_in x.call) (market_at past)

  -- The source's position: accepted openings draw, and nothing else does.
  abbrev pub source_at : List (Exchange T F) → Q
  source_at [] = q
  source_at (x ∷ past) = cond (is_accepted_opening x) (w.source.next (source_at past)) (source_at past)

  -- What the market now shows to an order of a side: floor and contra price.
  abbrev pub shown_to : Side → List (Exchange T F) → TurnedQuote
  shown_to side past = turned_quote side (w.market.shows (market_at past))

  -- T: the deadline is reached by the room's time.
  abbrev pub deadline_reached : Story → List (Exchange T F) → Bool
  deadline_reached s past = nat_le (deadline_of s.opening) (time_then past)

  -- What is now shown to the order, at an accepted tick.
  abbrev pub shown_now : Story → List (Exchange T F) → TurnedQuote
  shown_now s past = shown_to s.opening.order.side past

  module _ (past : List (Exchange T F)) (x : Exchange T F) (s : Story) where
    -- B: at an accepted tick, the floor now shown is above the initiating price.
    abbrev pub floor_above_initiating : Bool
    floor_above_initiating = is_accepted_tick x && is_above (shown_now s (x ∷ past)).floor s.opening.range.initiating

    -- C: it is above a response that stands.
    abbrev pub floor_above_response : Bool
    floor_above_response = is_accepted_tick x && above_one s.opening.order.side (shown_now s (x ∷ past)).floor s.stood

    -- D: it is above a single stop.
    abbrev pub floor_above_stop : Bool
    floor_above_stop = is_accepted_tick x && stop_passed (guarantee_of s.opening).kind (shown_now s (x ∷ past)).floor (guarantee_of s.opening).price

    -- F: at an accepted tick, the contra price now shown is below the guarantee.
    abbrev pub contra_below_guarantee : Bool
    contra_below_guarantee = is_accepted_tick x && is_below (shown_now s (x ∷ past)).contra (guarantee_of s.opening).price

    -- The letter of the first cause that a call brings to an open auction: T comes first, since every timed call begins with the clock
    -- step; at a tick B, C, D and F are tried in this order; A, E and H are of other calls.
    abbrev pub first_cause : Option ℕ
    first_cause =
        first_that_holds
        ((deadline_reached s (x ∷ past), byte "T")
        ∷ ((is_accepted_opening x, byte "A")
        ∷ ((floor_above_initiating, byte "B")
        ∷ ((floor_above_response, byte "C")
        ∷ ((floor_above_stop, byte "D")
        ∷ ((contra_below_guarantee, byte "F")
        ∷ ((plain_response_below_floor s x, byte "E")
        ∷ ((is_accepted_halt x, byte "H")
        ∷ []))))))))

    -- The floor after a call: what an accepted tick that did not end the auction shows there, if it shows a price.
    abbrev pub floor_after : ℤ
    floor_after = cond (is_accepted_tick x && not (is_some first_cause)) (shown_or (shown_now s (x ∷ past)).floor s.floor) s.floor

    -- The call finds the auction open after its clock step, and was told a stored price and size.
    abbrev pub stores : Bool
    stores = is_some (told_terms x.answer) && not (deadline_reached s (x ∷ past))

    abbrev pub stood_with : Option StoredTerms → List StoodResponse
    stood_with None = s.stood
    stood_with (Some t) = stood_after x.call t (next_arrival s) s.stood

    -- What a call makes of an open auction. A response that ends it still stands in it; the floor of an ending tick does not
    -- count.
    abbrev pub open_story_after : Story
    open_story_after = record s {
      floor = floor_after;
      stood = cond (deadline_reached s (x ∷ past)) s.stood (stood_with (told_terms x.answer));
      storers = cond stores (storing_after x.call s.storers) s.storers;
      ended = first_cause;
    }

    -- An auction that has ended stays as it was.
    abbrev pub story_after : Story
    story_after = cond (is_some s.ended) s open_story_after

  abbrev pub story_opened : Option PairedOrder → List (Exchange T F) → ℕ → Option Story
  story_opened None past time = None
  story_opened (Some o) past time = story_by o (shown_to o.side past).floor (shown_to o.side past).contra time (w.source.draws (source_at past))

  -- The story of the auction of this number, from its accepted opening on.
  abbrev pub story_of : ℕ → List (Exchange T F) → Option Story
  story_of n [] = None
  story_of n (x ∷ past) = cond (opens n x) (story_opened (order_in x.call) past (time_then (x ∷ past))) (option_map (story_after past x) (story_of n past))

  -- The cause that a call brings to an auction that was open,
  abbrev pub cause_by : Option Story → List (Exchange T F) → Exchange T F → Option ℕ
  cause_by None past x = None
  cause_by (Some s) past x = first_cause past x s

  abbrev pub cause_at : ℕ → List (Exchange T F) → Exchange T F → Option ℕ
  cause_at n past x = cause_by (going_on (story_of n past)) past x

  -- and the one for which it ended.
  abbrev pub cause_of : ℕ → List (Exchange T F) → Option ℕ
  cause_of n past = ending_cause (story_of n past)

  -- It has ended.
  abbrev pub has_ended : ℕ → List (Exchange T F) → Bool
  has_ended n past = is_over (story_of n past)

  -- The auction that is open, if one is: the last one opened, if it has not ended.
  abbrev pub open_story : List (Exchange T F) → Option Story
  open_story past = going_on (story_of (openings past) past)

  -- The auction waits to be collected: it has ended and was not collected.
  abbrev pub waits_then : ℕ → List (Exchange T F) → Bool
  waits_then n past = has_ended n past && not (was_collected n past)

  -- How many of the auctions up to a number wait.
  abbrev pub waiting_up_to : ℕ → List (Exchange T F) → ℕ
  waiting_up_to zero past = 0
  waiting_up_to (suc n) past = cond (waits_then (suc n) past) 1 0 + waiting_up_to n past

  abbrev pub waiting_then : List (Exchange T F) → ℕ
  waiting_then past = waiting_up_to (openings past) past

  -- What a look would tell.
  abbrev pub view_then : List (Exchange T F) → View
  view_then past = record {
    time = time_then past;
    halted = halted_then past;
    waiting = waiting_then past;
    auction = option_map (story_view (openings past)) (open_story past);
  }
