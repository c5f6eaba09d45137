-- The life of an auction, by its story and as the room holds it: not yet opened, open, waiting, collected. The story of an
-- auction that has ended stays as it is.
use Rattle.std.proofs.Common.{◌≡◌, ◌⊎◌, inl, inr, ℕ, ◌+◌, ◌≤◌, max, Bool, true, false, cond, not, ◌&&◌, ◌||◌, eqb, leb, List, [], ◌∷◌, map, length, ℤ, is_some, Some, None, Option, sym, refl, ap, ◌∙◌, arith}
use Rattle.std.proofs.lemmas.Bool.{and_left}
use Rattle.std.specs.Option.{option_map}
use lib.Signed.{lt_z}
use Rattle.market.specs.declared.side.Side.{Side}
use Rattle.allocation.proofs.Mates.{turned_twice}
use Rattle.allocation.specs.declared.order.GuaranteeKind.{GuaranteeKind}
use Rattle.allocation.specs.declared.order.GuaranteeKind.TheVariants.{SingleStop, AutoMatchLimit}
use Rattle.allocation.specs.declared.response.Kind.{Kind}
use Rattle.allocation.specs.declared.response.Kind.TheVariants.{Sealed, Plain}
use Rattle.allocation.specs.declared.response.Response.{Response}
use Rattle.allocation.specs.FillLaws.{stood_response}
use Rattle.room.specs.Clock.{due, after_clock}
use Rattle.room.specs.State.{OpenValues, EndedValues, RoomState, at_time, after_end, is_number, waiting_auction}
use Rattle.room.specs.Responses.{is_plain}
use Rattle.room.specs.Ticks.{shown_above, shown_below, above_response, above_stop, floor_now}
use Rattle.room.specs.World.{World}
use Rattle.session.specs.declared.call.Call.{Call}
use Rattle.session.specs.History.{Story, is_above, is_below, shown_or, stop_passed, is_plain_kind, above_one, time_or_zero, clock_time, opens, collects, was_collected, order_in, time_then, going_on, open_story_after, story_after, story_opened, story_of, ending_cause, cause_of}
use Rattle.session.specs.Moments.{is_open, ends_at, times_ended, exchange_of, history_of}
use Rattle.session.specs.Runs.{Moment, after_clock_step, given_time, input_refusal}
use Rattle.room.proofs.Tests.{true_false}
use Rattle.session.proofs.Ending.Apart.{Apart}
use Rattle.session.proofs.Ending.Waiting.{Once}
use Rattle.session.proofs.Inputs.{fails_same}
use Rattle.session.proofs.Linked.{Matches}
use Rattle.std.specs.Str.{byte}

-- What the clock step does: it moves the time, and no deadline is reached; or it ends the open auction.
module _ {P Q : Type 0} where
  pub data Stepped (s u : RoomState P Q) : Type 0 where
    kept : (t : ℕ) → u ≡ at_time t s → due t s.current ≡ false → Stepped s u
    expired : (t : ℕ) (a : OpenValues) → s.current ≡ Some a → leb a.deadline t ≡ true → u ≡ after_end (byte "T") (at_time t s) → Stepped s u

  stepped_due : (b : Bool) (t : ℕ) (o : Option OpenValues) (s : RoomState P Q) → s.current ≡ o → due t o ≡ b → Stepped s (cond b (after_end (byte "T") (at_time t s)) (at_time t s))
  stepped_due true t None s e h = true_false (sym h)
  stepped_due true t (Some a) s e h = expired t a e h refl
  stepped_due false t o s e h = kept t refl (ap (due t) e ∙ h)

  pub stepped_by : (k : Option ℕ) (g : Option ℕ) (s : RoomState P Q) → due s.time s.current ≡ false → Stepped s (after_clock_step k g s)
  stepped_by (Some e) g s h = kept s.time refl h
  stepped_by None None s h = kept s.time refl h
  stepped_by None (Some t) s h = stepped_due (due (max s.time t) s.current) (max s.time t) s.current s refl refl

  -- where no time is given, there is no clock step
  pub unstepped : (k : Option ℕ) (s : RoomState P Q) → after_clock_step k None s ≡ s
  unstepped None s = refl
  unstepped (Some e) s = refl

  clocked_time_by : (b : Bool) (t : ℕ) (s : RoomState P Q) → (cond b (after_end (byte "T") (at_time t s)) (at_time t s)).time ≡ t
  clocked_time_by true t s = refl
  clocked_time_by false t s = refl

  -- the clock step reaches the time that is given
  clocked_time : (s : RoomState P Q) (t : ℕ) → (after_clock s t).time ≡ max s.time t
  clocked_time s t = clocked_time_by (due (max s.time t) s.current) (max s.time t) s

  stepped_time_by : (k : Option ℕ) (g : Option ℕ) (s : RoomState P Q) → (after_clock_step k g s).time ≡ max s.time (cond (is_some k) 0 (time_or_zero g))
  stepped_time_by (Some e) g s = omega arith
  stepped_time_by None None s = omega arith
  stepped_time_by None (Some t) s = clocked_time s t

  -- by the history's words: that of a timed call that passes its input checks
  pub stepped_time : {T : Type 0} (c : Call T) (s : RoomState P Q) → (after_clock_step (input_refusal c) (given_time c) s).time ≡ max s.time (clock_time c)
  stepped_time c s =
      stepped_time_by (input_refusal c) (given_time c) s ∙ ap (λ (b : Bool). max s.time (cond b 0 (time_or_zero (given_time c)))) (sym (fails_same c))

  -- and leaves what neither the time nor an end changes
  stepped_keeps : {X : Type 0} (f : RoomState P Q → X) → ((t : ℕ) (s : RoomState P Q) → f (at_time t s) ≡ f s) → ((s : RoomState P Q) → f (after_end (byte "T") s) ≡ f s)
      → (s u : RoomState P Q) → Stepped s u → f u ≡ f s
  stepped_keeps f moves ends s u (kept t e h) = ap f e ∙ moves t s
  stepped_keeps f moves ends s u (expired t a c h e) = ap f e ∙ ends (at_time t s) ∙ moves t s

  pub stepped_opened : (s u : RoomState P Q) → Stepped s u → u.opened ≡ s.opened
  stepped_opened = stepped_keeps (λ z. z.opened) (λ t s. refl) (λ s. refl)

  pub stepped_position : (s u : RoomState P Q) → Stepped s u → u.position ≡ s.position
  stepped_position = stepped_keeps (λ z. z.position) (λ t s. refl) (λ s. refl)

  pub stepped_source : (s u : RoomState P Q) → Stepped s u → u.source ≡ s.source
  stepped_source = stepped_keeps (λ z. z.source) (λ t s. refl) (λ s. refl)

  pub stepped_halted : (s u : RoomState P Q) → Stepped s u → u.halted ≡ s.halted
  stepped_halted = stepped_keeps (λ z. z.halted) (λ t s. refl) (λ s. refl)

  pub stepped_number : (s u : RoomState P Q) → Stepped s u → u.number ≡ s.number
  stepped_number = stepped_keeps (λ z. z.number) (λ t s. refl) (λ s. refl)

  -- what is open after it is not due
  pub stepped_not_due : (s u : RoomState P Q) → Stepped s u → due u.time u.current ≡ false
  stepped_not_due s u (kept t e h) = ap (λ (z : RoomState P Q). due z.time z.current) e ∙ h
  stepped_not_due s u (expired t a c h e) = ap (λ (z : RoomState P Q). due z.time z.current) e

-- Where a room holds the auction of a number: it is the open one,
module _ {P Q : Type 0} (n : ℕ) (s : RoomState P Q) where
  pub record OpenAs (a : OpenValues) : Type 0 where
    pub current_is : s.current ≡ Some a
    pub number_is : eqb a.number n ≡ true
    pub none_waits : waiting_auction n s.waiting ≡ None

  -- or it waits, once,
  pub record WaitsAs (e : EndedValues) : Type 0 where
    pub waits : waiting_auction n s.waiting ≡ Some e
    pub once : Once n s.waiting
    pub shut : is_open n s ≡ false

  -- or nowhere.
  pub record Nowhere : Type 0 where
    pub none_waits : waiting_auction n s.waiting ≡ None
    pub shut : is_open n s ≡ false

  pub open_here : (a : OpenValues) → OpenAs a → is_open n s ≡ true
  open_here a h = ap (is_number n) h.current_is ∙ h.number_is

-- The history's words for prices, and the room's.
pub above_is : (o : Option ℤ) (z : ℤ) → is_above o z ≡ shown_above o z
above_is None z = refl
above_is (Some f) z = refl

pub below_is : (o : Option ℤ) (z : ℤ) → is_below o z ≡ shown_below o z
below_is None z = refl
below_is (Some f) z = refl

pub floor_is_now : (o : Option ℤ) (z : ℤ) → shown_or o z ≡ floor_now o z
floor_is_now None z = refl
floor_is_now (Some f) z = refl

pub stop_is : (k : GuaranteeKind) (o : Option ℤ) (z : ℤ) → stop_passed k o z ≡ above_stop o k z
stop_is SingleStop o z = above_is o z
stop_is AutoMatchLimit o z = refl

pub plain_is : (k : Kind) (b : Bool) → (is_plain_kind k && b) ≡ cond (is_plain k) b false
plain_is Sealed b = refl
plain_is Plain b = refl

-- a price above one of the responses, turned back and turned once more
pub above_one_is : (side : Side) (o : Option ℤ) (xs : List Response) → above_one side o (map (stood_response side) xs) ≡ above_response o xs
above_one_is side None [] = refl
above_one_is side None (x ∷ xs) = above_one_is side None xs
above_one_is side (Some f) [] = refl
above_one_is side (Some f) (x ∷ xs) = ap (λ z. lt_z z f || above_one side (Some f) (map (stood_response side) xs)) (turned_twice side x.price) ∙ ap (λ b. lt_z x.price f || b) (above_one_is side (Some f) xs)

module _ {P T F Q : Type 0} (w : World P T F Q) (p : P) (q : Q) where
  pub record Alive (n : ℕ) (past : List (Moment P T F Q)) (a : OpenValues) : Type 0 where
    pub story : Story
    pub is_its_story : story_of w p q n (history_of past) ≡ Some story
    pub goes_on : story.ended ≡ None
    pub matches : Matches story a
    pub apart : Apart a
    pub a_count_each : length a.used ≡ 16
    pub from_one : 1 ≤ n
    pub at_least : 100 ≤ story.opening.interval
    pub at_most : story.opening.interval ≤ 1000
    pub unended : times_ended n past ≡ 0
    pub uncollected : was_collected n (history_of past) ≡ false

  -- as it was when it ended
  pub record Over (n : ℕ) (past : List (Moment P T F Q)) (e : EndedValues) : Type 0 where
    pub story : Story
    pub is_its_story : story_of w p q n (history_of past) ≡ Some story
    pub was : OpenValues
    pub as_it_was : e.values ≡ was.values
    pub matches : Matches story was
    pub apart : Apart was
    pub cause_is : story.ended ≡ Some e.cause
    pub from_one : 1 ≤ n
    pub ended_once : times_ended n past ≡ 1
    pub uncollected : was_collected n (history_of past) ≡ false

  -- the cause for which it ended
  pub over_cause : (n : ℕ) (past : List (Moment P T F Q)) (e : EndedValues) → Over n past e → cause_of w p q n (history_of past) ≡ Some e.cause
  over_cause n past e v = ap ending_cause v.is_its_story ∙ v.cause_is

  pub record Gone (n : ℕ) (past : List (Moment P T F Q)) : Type 0 where
    pub story : Story
    pub is_its_story : story_of w p q n (history_of past) ≡ Some story
    pub is_over : is_some story.ended ≡ true
    pub ended_once : times_ended n past ≡ 1
    pub was_taken : was_collected n (history_of past) ≡ true

  -- no opening of this number was accepted
  pub record Unborn (n : ℕ) (past : List (Moment P T F Q)) (s : RoomState P Q) : Type 0 where
    pub no_story : story_of w p q n (history_of past) ≡ None
    pub never_ended : times_ended n past ≡ 0
    pub uncollected : was_collected n (history_of past) ≡ false
    pub only_later : n ≤ s.opened → n ≡ 0

  pub data Life (n : ℕ) (past : List (Moment P T F Q)) (s : RoomState P Q) : Type 0 where
    unborn : Nowhere n s → Unborn n past s → Life n past s
    alive : (a : OpenValues) → OpenAs n s a → n ≤ s.opened → Alive n past a → Life n past s
    waiting : (e : EndedValues) → WaitsAs n s e → n ≤ s.opened → Over n past e → Life n past s
    gone : Nowhere n s → n ≤ s.opened → Gone n past → Life n past s

  module _ (n : ℕ) (past : List (Moment P T F Q)) (s : RoomState P Q) where
    -- the auction is open, and its story goes on; or neither
    pub record IsOpen : Type 0 where
      pub auction : OpenValues
      pub open_as : OpenAs n s auction
      pub counted : n ≤ s.opened
      pub live : Alive n past auction
      pub goes_on : going_on (story_of w p q n (history_of past)) ≡ Some live.story

    pub record IsShut : Type 0 where
      pub shut : is_open n s ≡ false
      pub goes_on : going_on (story_of w p q n (history_of past)) ≡ None

    shut_after : (f : Story) → story_of w p q n (history_of past) ≡ Some f → is_some f.ended ≡ true → is_open n s ≡ false → IsShut
    shut_after f e h k = record { shut = k; goes_on = ap going_on e ∙ ap (λ (b : Bool). cond b None (Some f)) h }

    pub open_or_shut : Life n past s → IsOpen ⊎ IsShut
    open_or_shut (unborn at u) = inr (record { shut = at.shut; goes_on = ap going_on u.no_story })
    open_or_shut (alive a at o v) = inl (record {
      auction = a;
      open_as = at;
      counted = o;
      live = v;
      goes_on = ap going_on v.is_its_story ∙ ap (λ (b : Bool). cond b None (Some v.story)) (ap is_some v.goes_on);
    })
    open_or_shut (waiting e at o v) = inr (shut_after v.story v.is_its_story (ap is_some v.cause_is) at.shut)
    open_or_shut (gone at o g) = inr (shut_after g.story g.is_its_story g.is_over at.shut)

    -- it waits, and has ended; or it does not wait
    pub record IsWaiting : Type 0 where
      pub auction : EndedValues
      pub waits_as : WaitsAs n s auction
      pub counted : n ≤ s.opened
      pub over : Over n past auction

    pub waits_or_not : Life n past s → IsWaiting ⊎ (waiting_auction n s.waiting ≡ None)
    waits_or_not (unborn at u) = inr at.none_waits
    waits_or_not (alive a at o v) = inr at.none_waits
    waits_or_not (waiting e at o v) = inl (record { auction = e; waits_as = at; counted = o; over = v })
    waits_or_not (gone at o g) = inr at.none_waits

  module _ (n : ℕ) (past : List (Moment P T F Q)) (m : Moment P T F Q) where
    -- A moment that does not open an auction continues its story, if it has one;
    story_next : opens n (exchange_of m) ≡ false → story_of w p q n (history_of (m ∷ past)) ≡ option_map (story_after w p q (history_of past) (exchange_of m)) (story_of w p q n (history_of past))
    story_next h =
        ap (λ (b : Bool). cond b (story_opened w p q (order_in m.call) (history_of past) (time_then (history_of (m ∷ past)))) (option_map (story_after w p q (history_of past) (exchange_of m)) (story_of w p q n (history_of past)))) h

    pub no_story : opens n (exchange_of m) ≡ false → story_of w p q n (history_of past) ≡ None → story_of w p q n (history_of (m ∷ past)) ≡ None
    no_story h e = story_next h ∙ ap (option_map (story_after w p q (history_of past) (exchange_of m))) e

    module _ (s : Story) (h : opens n (exchange_of m) ≡ false) (e : story_of w p q n (history_of past) ≡ Some s) where
      story_by : (b : Bool) → is_some s.ended ≡ b → story_of w p q n (history_of (m ∷ past)) ≡ Some (cond b s (open_story_after w p q (history_of past) (exchange_of m) s))
      story_by b k =
          story_next h ∙ ap (option_map (story_after w p q (history_of past) (exchange_of m))) e ∙ ap (λ (i : Bool). Some (cond i s (open_story_after w p q (history_of past) (exchange_of m) s))) k

      pub story_lives : s.ended ≡ None → story_of w p q n (history_of (m ∷ past)) ≡ Some (open_story_after w p q (history_of past) (exchange_of m) s)
      story_lives k = story_by false (ap is_some k)

      pub story_over : is_some s.ended ≡ true → story_of w p q n (history_of (m ∷ past)) ≡ Some s
      story_over k = story_by true k

    -- one at which it does not end leaves how often it ended,
    pub ended_kept : ends_at n m ≡ false → times_ended n (m ∷ past) ≡ times_ended n past
    ended_kept h = ap (λ (b : Bool). cond b 1 0 + times_ended n past) h ∙ omega arith

    pub ended_now : ends_at n m ≡ true → times_ended n past ≡ 0 → times_ended n (m ∷ past) ≡ 1
    ended_now h k = ap (λ (b : Bool). cond b 1 0 + times_ended n past) h ∙ omega arith

    -- and one that does not collect it leaves it uncollected.
    pub collected_kept : collects n (exchange_of m) ≡ false → was_collected n (history_of (m ∷ past)) ≡ was_collected n (history_of past)
    collected_kept h = ap (λ (b : Bool). b || was_collected n (history_of past)) h

    pub collected_now : collects n (exchange_of m) ≡ true → was_collected n (history_of (m ∷ past)) ≡ true
    collected_now h = ap (λ (b : Bool). b || was_collected n (history_of past)) h

    pub over_kept : (e : EndedValues) → is_open n m.before ≡ false → opens n (exchange_of m) ≡ false → collects n (exchange_of m) ≡ false → Over n past e → Over n (m ∷ past) e
    over_kept e h o c v = record {
      story = v.story;
      is_its_story = story_over v.story o v.is_its_story (ap is_some v.cause_is);
      was = v.was;
      as_it_was = v.as_it_was;
      matches = v.matches;
      apart = v.apart;
      cause_is = v.cause_is;
      from_one = v.from_one;
      ended_once = ended_kept (and_left (is_open n m.before) (not (is_open n m.after)) h) ∙ v.ended_once;
      uncollected = collected_kept c ∙ v.uncollected;
    }
