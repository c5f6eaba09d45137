-- When an auction ends: what holds of a room and its history at every moment of a run, and the laws that follow from it.
use Rattle.std.proofs.Common.{◌≡◌, ◌⊎◌, inl, inr, ℕ, ◌+◌, ◌-◌, ◌≤◌, max, Bool, true, false, cond, not, ◌&&◌, eqb, List, [], ◌∷◌, ℤ, is_some, Some, None, Ok, Err, Option, Result, sym, refl, ap, ◌∙◌, arith}
use Rattle.std.proofs.lemmas.Bool.{and_left, eq-eqb}
use Rattle.std.specs.Option.{option_map}
use Rattle.std.proofs.lemmas.Bool.Decides.{nat_tests as tests}
use Rattle.std.proofs.lemmas.List.{get_or-replicate}
use lib.Signed.{lt_z}
use Rattle.std.specs.Int.{int_min}
use Rattle.market.specs.declared.quote.Quote.{Quote}
use Rattle.market.specs.Limits.{in_limits}
use Rattle.market.specs.Side.{turned_price}
use Rattle.market.specs.Range.{RangePrices, permitted_range, range_faced, turned_quote}
use Rattle.interval.specs.Source.{WithinLimits}
use Rattle.allocation.specs.declared.order.PairedOrder.{PairedOrder}
use Rattle.room.specs.Clock.{due}
use Rattle.room.specs.Openings.{new_auction, none_used}
use Rattle.room.specs.State.{OpenValues, EndedValues, RoomState, new_room, waiting_auction, without_number, used_by}
use Rattle.room.specs.World.{World}
use Rattle.session.specs.declared.call.Call.{Call}
use Rattle.session.specs.Ending.{collectings, auction_count, MarketPermitsTheRange}
use Rattle.session.specs.History.{Exchange, OpeningFacts, Story, new_story, range_shown, story_by, clock_time, opens, collects, opened_number, is_accepted, is_collected, is_same, auction_in, tick_in, order_in, halted_by, time_then, halted_then, openings, was_collected, story_after, story_opened, story_of, market_at, source_at, position_then}
use Rattle.session.specs.Moments.{is_open, ends_at, times_ended, exchange_of, history_of}
use Rattle.session.specs.Runs.{Answer, Moment, given_time, input_refusal, moment, step}
use Rattle.session.proofs.Ending.Counted.{Counted, same, more, fewer, counted_by, undue_by, opened_held, position_by, time_by, number_by, halted_by_call, last_by, stepped_held, stepped_last, IsTheLast}
use Rattle.session.proofs.Ending.Elsewhere.{Elsewhere, stepped_elsewhere, both_elsewhere, did_elsewhere, not_opened, not_collected}
use Rattle.session.proofs.Ending.Fates.{Fate, fate}
use Rattle.session.proofs.Ending.Lives.{Stepped, stepped_by, stepped_time, stepped_opened, stepped_position, stepped_source, stepped_number, stepped_halted, stepped_not_due, OpenAs, WaitsAs, Nowhere, Alive, Over, Gone, Unborn, Life, unborn, alive, waiting, gone, no_story, story_over, ended_kept, collected_kept, collected_now, over_kept}
use Rattle.session.proofs.Ending.Shapes.{Did, OpenedHere, CollectedHere, opened_or_not, collected_or_not, did}
use Rattle.room.proofs.Sound.{new_sound, permitted_ordered}
use Rattle.room.proofs.Tests.{true_false, none_some}
use Rattle.session.proofs.Ending.Waiting.{Once, closed_other}
use Rattle.std.specs.Str.{byte}

-- what a market shows, where it permits an order a range, makes the story of an opening in that range
range_from_is : (o : PairedOrder) (floor contra : ℤ) (b : Bool) (r : RangePrices) (t i : ℕ) → cond {A = Result RangePrices ℕ} b (Err 15) (Ok (range_shown o floor contra)) ≡ Ok r
    → story_by o (Some floor) (Some contra) t i ≡ Some (new_story (record { order = o; range = r; time = t; interval = i }))
range_from_is o floor contra true r t i h = absurd cc
range_from_is o floor contra false r t i h =
    let is : range_shown o floor contra ≡ r = cc in ap (λ z. Some (new_story (record { order = o; range = z; time = t; interval = i }))) is

range_faced_is : (o : PairedOrder) (floor contra : Option ℤ) (r : RangePrices) (t i : ℕ) → range_faced o.side (turned_price o.side o.limit) floor contra ≡ Ok r
    → story_by o floor contra t i ≡ Some (new_story (record { order = o; range = r; time = t; interval = i }))
range_faced_is o None contra r t i h = absurd cc
range_faced_is o (Some floor) None r t i h = absurd cc
range_faced_is o (Some floor) (Some contra) r t i h = range_from_is o floor contra (lt_z (int_min (turned_price o.side o.limit) contra) floor) r t i h

limit_checked_is : (o : PairedOrder) (q : Quote) (b : Bool) (r : RangePrices) (t i : ℕ) → cond {A = Result RangePrices ℕ} b (range_faced o.side (turned_price o.side o.limit) (turned_quote o.side q).floor (turned_quote o.side q).contra) (Err 2) ≡ Ok r
    → story_by o (turned_quote o.side q).floor (turned_quote o.side q).contra t i ≡ Some (new_story (record { order = o; range = r; time = t; interval = i }))
limit_checked_is o q true r t i h = range_faced_is o (turned_quote o.side q).floor (turned_quote o.side q).contra r t i h
limit_checked_is o q false r t i h = absurd cc

story_in_range : (o : PairedOrder) (q : Quote) (r : RangePrices) (t i : ℕ) → permitted_range o.side o.limit q ≡ Ok r
    → story_by o (turned_quote o.side q).floor (turned_quote o.side q).contra t i ≡ Some (new_story (record { order = o; range = r; time = t; interval = i }))
story_in_range o q r t i h = limit_checked_is o q (in_limits (Some o.limit)) r t i h

module _ {P T F Q : Type 0} (w : World P T F Q) (drawn : WithinLimits w.source) (number : ℕ) (p : P) (q : Q) where
  -- what holds of a room after a history
  pub record Holds (past : List (Moment P T F Q)) (s : RoomState P Q) : Type 0 where
    pub number_is : s.number ≡ number
    pub time_is : s.time ≡ time_then (history_of past)
    pub halted_is : s.halted ≡ halted_then (history_of past)
    pub position_is : s.position ≡ market_at w p q (history_of past)
    pub source_is : s.source ≡ source_at w p q (history_of past)
    pub none_due : due s.time s.current ≡ false
    pub last : IsTheLast s
    pub counted : s.opened ≡ openings (history_of past)
    pub none_lost : openings (history_of past) ≡ collectings past + auction_count s
    pub at_most_two : auction_count s ≤ 2
    pub lives : (n : ℕ) → Life w p q n past s

  none_used_yet : (member : ℕ) → member ≤ 16 → used_by member none_used ≡ 0
  none_used_yet member h = get_or-replicate 16 (member - 1) 0 0 (omega arith)

  -- it holds of a new room
  pub holds_new : Holds [] (new_room number p q)
  holds_new = record {
    number_is = refl;
    time_is = refl;
    halted_is = refl;
    position_is = refl;
    source_is = refl;
    none_due = refl;
    last = refl;
    counted = refl;
    none_lost = refl;
    at_most_two = omega arith;
    lives = λ n. unborn (record { none_waits = refl; shut = refl }) (record { no_story = refl; never_ended = refl; uncollected = refl; only_later = λ h. omega arith });
  }

  module _ (past : List (Moment P T F Q)) (m : Moment P T F Q) (h : Holds past m.before) (clock : Stepped m.before m.stepped) (timed : m.stepped.time ≡ max m.before.time (clock_time m.call)) (business : Did w m) where
    abbrev before : List (Exchange T F)
    before = history_of past

    abbrev x : Exchange T F
    x = exchange_of m

    -- the clock step reaches the history's time
    pub time_stepped : m.stepped.time ≡ time_then (history_of (m ∷ past))
    time_stepped = timed ∙ ap (λ t. max t (clock_time m.call)) h.time_is

    opened_then : m.stepped.opened ≡ m.before.opened
    opened_then = stepped_opened m.before m.stepped clock

    pub tally : Counted w m
    tally = counted_by w m business

    -- the auctions that were opened before
    pub earlier : (n : ℕ) → n ≤ m.before.opened → n ≤ m.stepped.opened
    earlier n k = let e = opened_then in omega arith

    grows_by : Counted w m → m.stepped.opened ≤ m.after.opened
    grows_by (same c) = let e = c.holds.same_opened in omega arith
    grows_by (more c) = let e = c.opened_up in omega arith
    grows_by (fewer c) = let e = c.same_opened in omega arith

    later : (n : ℕ) → n ≤ m.before.opened → n ≤ m.after.opened
    later n k = let e = earlier n k in let g = grows_by tally in omega arith

    -- An auction that is not open, and that the call neither opens nor collects.
    aside : (n : ℕ) → is_open n m.before ≡ false → opens n x ≡ false → collects n x ≡ false → Elsewhere n m.before m.after
    aside n k o c =
        let first = stepped_elsewhere n m.before m.stepped clock k in
        both_elsewhere n m.before m.stepped m.after first (did_elsewhere w n m business first.still_closed o c)

    pub not_ending : (n : ℕ) → is_open n m.before ≡ false → ends_at n m ≡ false
    not_ending n k = and_left (is_open n m.before) (not (is_open n m.after)) k

    -- none of its number waits after the clock step
    none_stepped : (n : ℕ) → Nowhere n m.before → waiting_auction n m.stepped.waiting ≡ None
    none_stepped n at = (stepped_elsewhere n m.before m.stepped clock at.shut).same_waiting ∙ at.none_waits

    still_nowhere : (n : ℕ) → Nowhere n m.before → opens n x ≡ false → collects n x ≡ false → Nowhere n m.after
    still_nowhere n at o c = let away = aside n at.shut o c in record { none_waits = away.same_waiting ∙ at.none_waits; shut = away.still_closed }

    -- a number that has not come yet still has not
    no_number : (n : ℕ) → Counted w m → opens n x ≡ false → (n ≤ m.before.opened → n ≡ 0) → n ≤ m.after.opened → n ≡ 0
    no_number n (same c) o up k = up (let e = c.holds.same_opened in let g = opened_then in omega arith)
    no_number n (fewer c) o up k = up (let e = c.same_opened in let i = opened_then in omega arith)
    no_number n (more c) o up k =
        let other : eqb (m.stepped.opened + 1) n ≡ false = sym (ap (is_same n) c.opens) ∙ o in
        up (let e = c.opened_up in let i = opened_then in let less : n ≤ m.stepped.opened = grind (arith, tests) in omega arith)

    position_then_is : m.stepped.position ≡ market_at w p q before
    position_then_is = stepped_position m.before m.stepped clock ∙ h.position_is

    source_then_is : m.stepped.source ≡ source_at w p q before
    source_then_is = stepped_source m.before m.stepped clock ∙ h.source_is

    -- An opening: the market permits the order its range where the history leads, and that is the range of the story.
    module _ (d : OpenedHere w m) where
      abbrev order : PairedOrder
      order = d.request.order

      abbrev facts : OpeningFacts
      facts = record { order = order; range = d.range; time = time_then (x ∷ before); interval = w.source.draws (source_at w p q before) }

      permitted_is : permitted_range order.side order.limit (w.market.shows (market_at w p q before)) ≡ Ok d.range
      permitted_is = ap (λ e. permitted_range order.side order.limit (w.market.shows e)) (sym position_then_is) ∙ d.permitted_then

      story_is : (n : ℕ) → opens n x ≡ true → story_of w p q n (x ∷ before) ≡ Some (new_story facts)
      story_is n o =
          ap (λ (b : Bool). cond b (story_opened w p q (order_in m.call) before (time_then (x ∷ before))) (option_map (story_after w p q before x) (story_of w p q n before))) o
          ∙ ap (λ (c : Call T). story_opened w p q (order_in c) before (time_then (x ∷ before))) d.call_is
          ∙ story_in_range order (w.market.shows (market_at w p q before)) d.range (time_then (x ∷ before)) (w.source.draws (source_at w p q before)) permitted_is

    range_permitted : OpenedHere w m ⊎ (opened_number m.answer ≡ None) → MarketPermitsTheRange w number p q past m
    range_permitted (inl d) n e = (new_story (facts d), story_is d n (ap (is_same n) e ∙ eq-eqb n n refl), ap (λ (c : Call T). order_in c) d.call_is, permitted_is d)
    range_permitted (inr none) n e = none_some n (sym none ∙ e)

    pub market_permits : MarketPermitsTheRange w number p q past m
    market_permits = range_permitted (opened_or_not w m business)

    -- An auction that the call opens.
    module _ (n : ℕ) (at : Nowhere n m.before) (u : Unborn w p q n past m.before) (d : OpenedHere w m) (o : opens n x ≡ true) where
      abbrev new : OpenValues
      new = new_auction w m.stepped (order d) d.range

      none_collected : collects n x ≡ false
      none_collected = not_collected w n m business (none_stepped n at)

      number_told : eqb (m.stepped.opened + 1) n ≡ true
      number_told = sym (ap (λ (e : Answer F). is_same n (opened_number e)) d.answer_is) ∙ o

      number_is : n ≡ m.stepped.opened + 1
      number_is = let told = number_told in grind (arith, tests)

      new_alive : Alive w p q n (m ∷ past) new
      new_alive = record {
        story = new_story (facts d);
        is_its_story = story_is d n o;
        goes_on = refl;
        matches = record {
          order_is = refl;
          initiating_is = refl;
          floor_is = refl;
          stood_is = refl;
          deadline_is = ap (λ e. m.stepped.time + w.source.draws e) source_then_is ∙ ap (λ t. t + w.source.draws (source_at w p q before)) time_stepped;
          arrivals_is = refl;
          used_is = λ member low high. none_used_yet member high;
          sound = new_sound (order d) d.range d.sized (permitted_ordered (order d).side (order d).limit (w.market.shows m.stepped.position) d.range d.permitted_then) d.guaranteed;
        };
        apart = record { arrived = refl; arrivals = refl; owns = refl };
        a_count_each = refl;
        from_one = let is = number_is in omega arith;
        at_least = (drawn (source_at w p q before)).0;
        at_most = (drawn (source_at w p q before)).1;
        unended = ended_kept w p q n past m (not_ending n at.shut) ∙ u.never_ended;
        uncollected = collected_kept w p q n past m none_collected ∙ u.uncollected;
      }

      new_life : Life w p q n (m ∷ past) m.after
      new_life =
          let shut = (stepped_elsewhere n m.before m.stepped clock at.shut).still_closed in
          alive new
          (record {
            current_is = ap (λ (e : RoomState P Q). e.current) d.after_is;
            number_is = number_told;
            none_waits = ap (λ (e : RoomState P Q). waiting_auction n e.waiting) d.after_is ∙ closed_other (byte "A") n m.stepped.current m.stepped.waiting shut ∙ none_stepped n at;
          })
          (let e = ap (λ (e : RoomState P Q). e.opened) d.after_is in let is = number_is in omega arith)
          new_alive

    unborn_opens : (n : ℕ) → Nowhere n m.before → Unborn w p q n past m.before → OpenedHere w m ⊎ (opened_number m.answer ≡ None) → opens n x ≡ true → Life w p q n (m ∷ past) m.after
    unborn_opens n at u (inl d) o = new_life n at u d o
    unborn_opens n at u (inr none) o = true_false (sym o ∙ ap (is_same n) none)

    unborn_next : (n : ℕ) (b : Bool) → opens n x ≡ b → Nowhere n m.before → Unborn w p q n past m.before → Life w p q n (m ∷ past) m.after
    unborn_next n true e at u = unborn_opens n at u (opened_or_not w m business) e
    unborn_next n false e at u =
        let none = not_collected w n m business (none_stepped n at) in
        unborn (still_nowhere n at e none)
        (record {
          no_story = no_story w p q n past m e u.no_story;
          never_ended = ended_kept w p q n past m (not_ending n at.shut) ∙ u.never_ended;
          uncollected = collected_kept w p q n past m none ∙ u.uncollected;
          only_later = no_number n tally e u.only_later;
        })

    -- An auction that is collected.
    gone_with : (n : ℕ) (s : Story) → opens n x ≡ false → is_open n m.before ≡ false → story_of w p q n before ≡ Some s → is_some s.ended ≡ true → times_ended n past ≡ 1 → was_collected n (x ∷ before) ≡ true → Gone w p q n (m ∷ past)
    gone_with n s o k e v te wc = record { story = s; is_its_story = story_over w p q n past m s o e v; is_over = v; ended_once = ended_kept w p q n past m (not_ending n k) ∙ te; was_taken = wc }

    -- An auction that waits.
    collected_nowhere : (n : ℕ) → CollectedHere w m ⊎ (is_collected m.answer ≡ false) → collects n x ≡ true → Once n m.stepped.waiting → is_open n m.stepped ≡ false → Nowhere n m.after
    collected_nowhere n (inl d) c once shut =
        let told : eqb d.claim.auction n ≡ true = sym (ap (λ (e : Answer F). is_collected e && is_same n (auction_in m.call)) d.answer_is ∙ ap (λ (e : Call T). is_same n (auction_in e)) d.call_is) ∙ c in
        let is : d.claim.auction ≡ n = grind (arith, tests) in
        record {
          none_waits = ap (λ (e : RoomState P Q). waiting_auction n e.waiting) d.after_is ∙ ap (λ i. waiting_auction n (without_number i m.stepped.waiting)) is ∙ once;
          shut = ap (λ (e : RoomState P Q). is_open n e) d.after_is ∙ shut;
        }
    collected_nowhere n (inr none) c once shut = true_false (sym c ∙ ap (λ (b : Bool). b && is_same n (auction_in m.call)) none)

    waiting_next : (n : ℕ) (b : Bool) → collects n x ≡ b → (e : EndedValues) → WaitsAs n m.before e → n ≤ m.before.opened → Over w p q n past e → Life w p q n (m ∷ past) m.after
    waiting_next n true c e at o v =
        let first = stepped_elsewhere n m.before m.stepped clock at.shut in
        gone (collected_nowhere n (collected_or_not w m business) c (first.still_once at.once) first.still_closed) (later n o)
        (gone_with n v.story (not_opened w n m business (earlier n o)) at.shut v.is_its_story (ap is_some v.cause_is) v.ended_once (collected_now w p q n past m c))
    waiting_next n false c e at o v =
        let unopened = not_opened w n m business (earlier n o) in
        let away = aside n at.shut unopened c in
        waiting e (record { waits = away.same_waiting ∙ at.waits; once = away.still_once at.once; shut = away.still_closed }) (later n o) (over_kept w p q n past m e at.shut unopened c v)

    -- The open auction.
    pub fate_of : (n : ℕ) (a : OpenValues) → OpenAs n m.before a → n ≤ m.before.opened → Alive w p q n past a → Fate w p q n past m
    fate_of n a at o live = fate w p q n past m time_stepped a live at (earlier n o) business clock h.position_is

    alive_next : (n : ℕ) → n ≤ m.before.opened → Fate w p q n past m → Life w p q n (m ∷ past) m.after
    alive_next n o (inl f) = alive f.as_it_stays f.open_now (later n o) f.live
    alive_next n o (inr f) = waiting f.as_it_waits f.waits_now (later n o) f.over

    life_next : (n : ℕ) → Life w p q n past m.before → Life w p q n (m ∷ past) m.after
    life_next n (unborn at u) = unborn_next n (opens n x) refl at u
    life_next n (alive a at o live) = alive_next n o (fate_of n a at o live)
    life_next n (waiting e at o v) = waiting_next n (collects n x) refl e at o v
    life_next n (gone at o g) =
        let unopened = not_opened w n m business (earlier n o) in
        let none = not_collected w n m business (none_stepped n at) in
        gone (still_nowhere n at unopened none) (later n o) (gone_with n g.story unopened at.shut g.is_its_story g.is_over g.ended_once (collected_kept w p q n past m none ∙ g.was_taken))

    -- the counts
    opens_as : (k : Option ℕ) → opened_number m.answer ≡ k → openings (x ∷ before) ≡ cond (is_some k) 1 0 + openings before
    opens_as k h = ap (λ (e : Option ℕ). cond (is_some e) 1 0 + openings before) h

    collects_as : (b : Bool) → is_collected m.answer ≡ b → collectings (m ∷ past) ≡ cond b 1 0 + collectings past
    collects_as b h = ap (λ (e : Bool). cond e 1 0 + collectings past) h

    counted_next : Counted w m → m.after.opened ≡ openings (history_of (m ∷ past))
    counted_next (same c) = let none = opens_as None c.opens_none in let e = c.holds.same_opened in let g = opened_then in let k = h.counted in omega arith
    counted_next (more c) = let one = opens_as (Some (m.stepped.opened + 1)) c.opens in let e = c.opened_up in let i = opened_then in let k = h.counted in omega arith
    counted_next (fewer c) = let none = opens_as None c.opens_none in let e = c.same_opened in let i = opened_then in let k = h.counted in omega arith

    none_lost_next : Counted w m → openings (history_of (m ∷ past)) ≡ collectings (m ∷ past) + auction_count m.after
    none_lost_next (same c) =
        let none = opens_as None c.opens_none in let no_more = collects_as false c.collects_none in
        let e = c.holds.as_many in let g = stepped_held m.before m.stepped clock in let k = h.none_lost in omega arith
    none_lost_next (more c) =
        let one = opens_as (Some (m.stepped.opened + 1)) c.opens in let no_more = collects_as false c.collects_none in
        let e = c.holds_more in let i = stepped_held m.before m.stepped clock in let k = h.none_lost in omega arith
    none_lost_next (fewer c) =
        let none = opens_as None c.opens_none in let one = collects_as true c.collects in
        let e = c.holds_fewer in let i = stepped_held m.before m.stepped clock in let k = h.none_lost in omega arith

    -- an opening finds none that waits, and nothing else makes the room hold more
    one_open : (o : Option OpenValues) → cond (is_some o) 1 0 ≤ 1
    one_open None = omega arith
    one_open (Some a) = omega arith

    few_by : Counted w m → opened_number m.answer ≡ None → auction_count m.after ≤ 2
    few_by (same c) none = let e = c.holds.as_many in let g = stepped_held m.before m.stepped clock in let k = h.at_most_two in omega arith
    few_by (more c) none = none_some _ (sym none ∙ c.opens)
    few_by (fewer c) none = let e = c.holds_fewer in let i = stepped_held m.before m.stepped clock in let k = h.at_most_two in omega arith

    few_next : OpenedHere w m ⊎ (opened_number m.answer ≡ None) → auction_count m.after ≤ 2
    few_next (inl d) =
        let held = ap (λ (v : RoomState P Q). auction_count v) d.after_is ∙ opened_held w m m.stepped.current m.stepped.waiting in
        let alone = d.none_waited in
        let current = one_open m.stepped.current in
        omega arith
    few_next (inr none) = few_by tally none

    source_as : (k : Option ℕ) → opened_number m.answer ≡ k → source_at w p q (x ∷ before) ≡ cond (is_some k) (w.source.next (source_at w p q before)) (source_at w p q before)
    source_as k h = ap (λ (e : Option ℕ). cond (is_some e) (w.source.next (source_at w p q before)) (source_at w p q before)) h

    source_next : Counted w m → m.after.source ≡ source_at w p q (history_of (m ∷ past))
    source_next (same c) = c.holds.same_source ∙ stepped_source m.before m.stepped clock ∙ h.source_is ∙ sym (source_as None c.opens_none)
    source_next (more c) = c.drawn ∙ ap w.source.next (stepped_source m.before m.stepped clock ∙ h.source_is) ∙ sym (source_as (Some (m.stepped.opened + 1)) c.opens)
    source_next (fewer c) = c.same_source ∙ stepped_source m.before m.stepped clock ∙ h.source_is ∙ sym (source_as None c.opens_none)

    -- it holds after every call
    pub holds_next : Holds (m ∷ past) m.after
    holds_next = record {
      number_is = number_by w m business ∙ stepped_number m.before m.stepped clock ∙ h.number_is;
      time_is = time_by w m business ∙ time_stepped;
      halted_is = halted_by_call w m business ∙ ap (λ (b : Bool). cond (is_accepted m.answer) (halted_by m.call b) b) (stepped_halted m.before m.stepped clock ∙ h.halted_is);
      position_is = position_by w m business ∙ ap (position_then w.market.next (is_accepted m.answer) (tick_in m.call)) (stepped_position m.before m.stepped clock ∙ h.position_is);
      source_is = source_next tally;
      none_due = undue_by w m drawn business (stepped_not_due m.before m.stepped clock);
      last = last_by w m business (stepped_last m.before m.stepped clock h.last);
      counted = counted_next tally;
      none_lost = none_lost_next tally;
      at_most_two = few_next (opened_or_not w m business);
      lives = λ n. life_next n (h.lives n);
    }

  -- what the clock step of a call does, and the call
  pub clock_of : (s : RoomState P Q) (c : Call T) → due s.time s.current ≡ false → Stepped s (moment w s c).stepped
  clock_of s c h = stepped_by (input_refusal c) (given_time c) s h

  pub holds_after : (past : List (Moment P T F Q)) (s : RoomState P Q) (c : Call T) → Holds past s → Holds (moment w s c ∷ past) (step w s c).0
  holds_after past s c h = holds_next past (moment w s c) h (clock_of s c h.none_due) (stepped_time c s) (did w s c)
