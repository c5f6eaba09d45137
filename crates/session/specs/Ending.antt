-- When an auction ends: within a second, not by time too soon, never without waiting to be collected, and for its causes
-- and no others.
use Rattle.std.specs.Prelude.{◌≡◌, ℕ, ◌+◌, ◌≤◌, Bool, true, false, cond, ◌&&◌, List, [], ◌∷◌, length, is_some, Some, None, Ok, Option, ◌==◌, nat_le}
use Rattle.market.specs.Range.{permitted_range}
use Rattle.room.specs.State.{RoomState, waiting_auction}
use Rattle.room.specs.World.{World}
use Rattle.session.specs.declared.call.Call.{Call}
use Rattle.session.specs.declared.call.Call.TheVariants.{Collect}
use Rattle.session.specs.History.{Story, opened_number, is_collected, order_in, time_then, openings, market_at, waits_then, story_of, cause_at, cause_of}
use Rattle.session.specs.Inputs.{input_reason}
use Rattle.session.specs.Moments.{is_open, ends_at, ends_by_clock, times_ended, exchange_of, history_of, Throughout}
use Rattle.session.specs.Runs.{Answer, Collected, Moment, given_time, step, run}

-- The letter of the cause that an accepted collecting tells.
abbrev pub told_cause : {F : Type 0} → Answer F → Option ℕ
told_cause (Collected k fs) = Some k.cause
told_cause _ = None

-- The auction of this number waits to be collected.
abbrev pub waits : {P Q : Type 0} → ℕ → RoomState P Q → Bool
waits n s = is_some (waiting_auction n s.waiting)

-- How many auctions the room holds: those that wait, and the one that is open.
abbrev pub auction_count : {P Q : Type 0} → RoomState P Q → ℕ
auction_count s = length s.waiting + cond (is_some s.current) 1 0

module _ {P T F Q : Type 0} where
  -- A timed call that passes its input checks, with this time.
  abbrev pub TimedAt : ℕ → Moment P T F Q → Type 0
  TimedAt t m = (given_time m.call ≡ Some t) × (input_reason m.call ≡ None)

  -- How many collectings were accepted.
  abbrev pub collectings : List (Moment P T F Q) → ℕ
  collectings [] = 0
  collectings (m ∷ past) = cond (is_collected m.answer) 1 0 + collectings past

module _ {P T F Q : Type 0} (w : World P T F Q) (number : ℕ) (p : P) (q : Q) where
  -- A call does to the room as its clock step left it what it does to the room before: its own business comes after.
  abbrev pub BusinessAfterTheClockStep : Moment P T F Q → Type 0
  BusinessAfterTheClockStep m = step w m.stepped m.call ≡ (m.after, m.answer)

  -- An opening is accepted at T. At a later timed call that passes its input checks with a time of T + 1,000 or more the
  -- auction is not open after the clock step, so before the call's own business, and up to and with that call it has
  -- ended at exactly one moment.
  abbrev pub EndedWithinASecond : List (Moment P T F Q) → Moment P T F Q → Type 0
  EndedWithinASecond past m =
      (n t : ℕ) (s : Story) → story_of w p q n (history_of past) ≡ Some s → TimedAt t m → s.opening.time + 1000 ≤ t
      → (is_open n m.stepped ≡ false) × (times_ended n (m ∷ past) ≡ 1)

  -- An auction that ends by the clock does so at a time of T + 100 or later.
  abbrev pub NotByTimeTooSoon : List (Moment P T F Q) → Moment P T F Q → Type 0
  NotByTimeTooSoon past m =
      (n : ℕ) → ends_by_clock n m ≡ true → (s : Story) × (story_of w p q n (history_of past) ≡ Some s) × (s.opening.time + 100 ≤ time_then (history_of (m ∷ past)))

  -- A collecting is accepted exactly if its list has at least 129 rows, its claim has the room's number, and its auction has
  -- ended and was not collected before.
  abbrev pub CollectedWhenDue : List (Moment P T F Q) → Moment P T F Q → Type 0
  CollectedWhenDue past m =
      (room auction rows : ℕ) → m.call ≡ Collect (record { room = room; auction = auction }) rows
      → is_collected m.answer ≡ (nat_le 129 rows && (room == number && waits_then w p q auction (history_of past)))

  -- An opening is accepted. For the order that it hands in the market permits a range, at the position to which the accepted
  -- ticks before it lead, and the story of the auction it opens has that order and that range.
  abbrev pub MarketPermitsTheRange : List (Moment P T F Q) → Moment P T F Q → Type 0
  MarketPermitsTheRange past m =
      (n : ℕ) → opened_number m.answer ≡ Some n
      → (s : Story) × (story_of w p q n (history_of (m ∷ past)) ≡ Some s) × (order_in m.call ≡ Some s.opening.order)
      × (permitted_range s.opening.order.side s.opening.order.limit (w.market.shows (market_at w p q (history_of past))) ≡ Ok s.opening.range)

  -- An accepted opening opens an auction, in a range that the market permits; auctions are counted from one. From the
  -- moment at which it ends an auction waits until it is collected, so that accepted openings are as many as accepted
  -- collectings, auctions that wait and the one that is open, together; and it can be collected from then on. No more than two
  -- wait or are open.
  pub record EndedNotVanished (past : List (Moment P T F Q)) (m : Moment P T F Q) : Type 0 where
    pub waits_until_collected : (n : ℕ) → waits n m.after ≡ waits_then w p q n (history_of (m ∷ past))
    pub none_lost : openings (history_of (m ∷ past)) ≡ collectings (m ∷ past) + auction_count m.after
    pub at_most_two : auction_count m.after ≤ 2
    pub counted_from_one : (n : ℕ) → opened_number m.answer ≡ Some n → n ≡ openings (history_of past) + 1
    pub opens_in_a_range : (n : ℕ) → opened_number m.answer ≡ Some n → (is_open n m.after ≡ true) × (is_some (story_of w p q n (history_of (m ∷ past))) ≡ true)
    pub market_permits_the_range : MarketPermitsTheRange past m
    pub collected_when_due : CollectedWhenDue past m

  -- An auction that is open when a call comes ends at it if and only if the call brings one of its causes; and an accepted
  -- collecting tells the cause for which the auction ended, the first that was brought.
  pub record EndedForItsCauses (past : List (Moment P T F Q)) (m : Moment P T F Q) : Type 0 where
    pub ends_when_caused : (n : ℕ) → ends_at n m ≡ is_some (cause_at w p q n (history_of past) (exchange_of m))
    pub tells_the_cause : (room auction rows : ℕ) → m.call ≡ Collect (record { room = room; auction = auction }) rows
        → is_collected m.answer ≡ true → told_cause m.answer ≡ cause_of w p q auction (history_of past)

-- Of every run.
abbrev pub AuctionsEndAsRuled : {P T F Q : Type 0} → World P T F Q → Type 0
AuctionsEndAsRuled {P} {T} {F} {Q} w =
    (number : ℕ) (p : P) (q : Q) (cs : List (Call T))
    → Throughout (EndedWithinASecond w number p q) [] (run w number p q cs)
    × Throughout (λ past. BusinessAfterTheClockStep w number p q) [] (run w number p q cs)
    × Throughout (NotByTimeTooSoon w number p q) [] (run w number p q cs)
    × Throughout (EndedNotVanished w number p q) [] (run w number p q cs)
    × Throughout (EndedForItsCauses w number p q) [] (run w number p q cs)
