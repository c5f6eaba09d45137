-- The laws on when an auction ends, from what holds at every moment of a run.
use Rattle.std.proofs.Common.{◌≡◌, ◌⊎◌, inl, inr, ℕ, ◌+◌, ◌<◌, ◌≤◌, max, Bool, true, false, cond, not, ◌&&◌, eqb, ltb, leb, List, [], ◌∷◌, length, is_some, Some, None, Ok, Option, Result, sym, refl, ap, ◌∙◌, subst, arith}
use Rattle.std.proofs.lemmas.Bool.{and_from, and_parts, and_right, not-true}
use Rattle.std.proofs.lemmas.Bool.Decides.{nat_tests as tests}
use Rattle.interval.specs.Source.{WithinLimits}
use Rattle.room.specs.declared.answers.ClaimNumbers.{ClaimNumbers}
use Rattle.room.specs.Checks.{open_checks, respond_checks, change_checks, withdraw_checks, time_checks, collect_checks}
use Rattle.room.specs.Clock.{after_clock, due, timed_call}
use Rattle.room.specs.Collecting.{CollectionTold, fill_rows, waiting_now, written_rows}
use Rattle.room.specs.Openings.{opening}
use Rattle.room.specs.Refusals.{RefusalTold, refuse, unless, outcome}
use Rattle.room.specs.Responses.{responding, changing, withdrawing}
use Rattle.room.specs.State.{OpenValues, EndedValues, RoomState, new_room, is_number, waiting_auction, without_number, with_waiting, with_halted, at_time, after_end}
use Rattle.room.specs.Ticks.{ticking}
use Rattle.room.specs.World.{World, Terms}
use Rattle.session.specs.declared.call.Call.{Call}
use Rattle.session.specs.declared.call.Call.TheVariants.{Open, Respond, Change, Withdraw, Tick, Halt, Resume, Clock, Look, Collect}
use Rattle.session.specs.Ending.{TimedAt, CollectedWhenDue, told_cause, EndedWithinASecond, NotByTimeTooSoon, BusinessAfterTheClockStep, EndedNotVanished, EndedForItsCauses, AuctionsEndAsRuled}
use Rattle.session.specs.History.{Story, deadline_of, is_over, clock_time, time_or_zero, opened_number, is_collected, time_then, openings, was_collected, waits_then, story_of, cause_by, cause_at, cause_of}
use Rattle.session.specs.Moments.{is_open, ends_at, times_ended, exchange_of, history_of, Throughout}
use Rattle.session.specs.Runs.{Answer, Opened, Stored, Accepted, Collected, Moment, answer_of_result, state_and_answer, after_clock_step, given_time, input_refusal, moment, step, run_from}
use Rattle.session.proofs.Ending.Counted.{Counted, same, more, fewer}
use Rattle.session.proofs.Ending.Elsewhere.{stepped_elsewhere}
use Rattle.session.proofs.Ending.Held.{Holds, holds_new, holds_after, clock_of, time_stepped, tally, earlier, market_permits, fate_of, not_ending}
use Rattle.session.proofs.Ending.Fates.{Fate, expired_ends}
use Rattle.session.proofs.Ending.Lives.{Stepped, kept, expired, unstepped, stepped_time, stepped_opened, open_here, Over, over_cause, Life, unborn, alive, waiting, gone, IsOpen, IsShut, IsWaiting, open_or_shut, waits_or_not, ended_kept}
use Rattle.session.proofs.Ending.Shapes.{OpenedHere, CollectedHere, opened_or_not, collected_or_not, did}
use Rattle.room.proofs.Tests.{true_false, none_some}
use Rattle.std.specs.Str.{byte}

-- the clock step done twice is the clock step
max_again : (a t : ℕ) → max (max a t) t ≡ max a t
max_again a t = omega arith

module _ {P Q : Type 0} where
  clocked_again : (b : Bool) (s : RoomState P Q) (t : ℕ) → due (max s.time t) s.current ≡ b
      → after_clock (cond b (after_end (byte "T") (at_time (max s.time t) s)) (at_time (max s.time t) s)) t ≡ cond b (after_end (byte "T") (at_time (max s.time t) s)) (at_time (max s.time t) s)
  clocked_again true s t h = ap (λ n. at_time n (after_end (byte "T") (at_time (max s.time t) s))) (max_again s.time t)
  clocked_again false s t h =
      let u = at_time (max s.time t) s in
      ap (λ n. cond (due n s.current) (after_end (byte "T") (at_time n u)) (at_time n u)) (max_again s.time t) ∙ ap (λ (b : Bool). cond b (after_end (byte "T") u) u) h

  clocked_twice : (s : RoomState P Q) (t : ℕ) → after_clock (after_clock s t) t ≡ after_clock s t
  clocked_twice s t = clocked_again (due (max s.time t) s.current) s t refl

  timed_again : {Y F : Type 0} (k : Option ℕ) (s : RoomState P Q) (t : ℕ) (f : RoomState P Q → RoomState P Q × Result Y (RefusalTold F)) → timed_call k (after_clock_step k (Some t) s) t f ≡ timed_call k s t f
  timed_again None s t f = ap f (clocked_twice s t)
  timed_again (Some e) s t f = refl

-- a call does to the room as its clock step left it what it does to the room before
business_after : {P T F Q : Type 0} (w : World P T F Q) (s : RoomState P Q) (c : Call T) → step w (after_clock_step (input_refusal c) (given_time c) s) c ≡ step w s c
business_after w s (Open x) = ap (state_and_answer Opened) (timed_again (open_checks x) s x.time (λ u. opening w u x.order))
business_after w s (Respond x) = ap (state_and_answer Stored) (timed_again (respond_checks x) s x.time (λ u. responding u x))
business_after w s (Change x) = ap (state_and_answer Stored) (timed_again (change_checks x) s x.time (λ u. changing u x))
business_after w s (Withdraw x) = ap (state_and_answer Stored) (timed_again (withdraw_checks x) s x.time (λ u. withdrawing u x))
business_after w s (Tick t x) = ap (state_and_answer (λ _. Accepted)) (timed_again (time_checks t) s t (λ u. ticking w u x))
business_after w s (Halt t) = ap (state_and_answer (λ _. Accepted)) (timed_again (time_checks t) s t (λ u. (with_halted true (after_end (byte "H") u), Ok tt)))
business_after w s (Resume t) = ap (state_and_answer (λ _. Accepted)) (timed_again (time_checks t) s t (λ u. (with_halted false u, Ok tt)))
business_after w s (Clock t) = ap (state_and_answer (λ _. Accepted)) (timed_again (time_checks t) s t (λ u. (u, Ok tt)))
business_after w s Look = refl
business_after w s (Collect c n) = ap (λ u. step w u (Collect c n)) (unstepped (collect_checks n) s)

-- whether a collecting is accepted, by the tests one after another
accepted_by : {P T F Q : Type 0} (w : World P T F Q) (a b c : Bool) (o : Option EndedValues) (s : RoomState P Q) (k : EndedValues → RoomState P Q) (r : EndedValues → CollectionTold)
    → is_collected (answer_of_result {F = F} (λ z. Collected z (written_rows w (unless (refuse a 6 None) (unless (refuse b 42 (refuse c 41 None)) (waiting_now o)))))
    (outcome (unless (refuse a 6 None) (unless (refuse b 42 (refuse c 41 None)) (waiting_now o))) s k r).1)
    ≡ (not a && (not b && (not c && is_some o)))
accepted_by w true b c o s k r = refl
accepted_by w false true c o s k r = refl
accepted_by w false false true o s k r = refl
accepted_by w false false false None s k r = refl
accepted_by w false false false (Some e) s k r = refl

module _ {P T F Q : Type 0} (w : World P T F Q) (drawn : WithinLimits w.source) (number : ℕ) (p : P) (q : Q) where
  -- a law that holds of each moment, given what holds before it, holds throughout a run
  pub throughout : (L : List (Moment P T F Q) → Moment P T F Q → Type 0) → ((past : List (Moment P T F Q)) (s : RoomState P Q) (c : Call T) → Holds w drawn number p q past s → L past (moment w s c))
      → (past : List (Moment P T F Q)) (s : RoomState P Q) (cs : List (Call T)) → Holds w drawn number p q past s → Throughout L past (run_from w s cs)
  throughout L each past s [] h = tt
  throughout L each past s (c ∷ cs) h = (each past s c h, throughout L each (moment w s c ∷ past) (step w s c).0 cs (holds_after w drawn number p q past s c h))

  module _ (past : List (Moment P T F Q)) (s : RoomState P Q) (c : Call T) (h : Holds w drawn number p q past s) where
    abbrev m : Moment P T F Q
    m = moment w s c

    clock : Stepped s m.stepped
    clock = clock_of w drawn number p q s c h.none_due

    reaches_time : m.stepped.time ≡ max s.time (clock_time c)
    reaches_time = stepped_time c s

    -- the history's time, after the clock step
    pub time_now : m.stepped.time ≡ time_then (history_of (m ∷ past))
    time_now = time_stepped w drawn number p q past m h clock reaches_time (did w s c)

    -- Within a second.
    reaches : (t : ℕ) → TimedAt t m → m.stepped.time ≡ max s.time t
    reaches t k = reaches_time ∙ ap (λ (o : Option ℕ). max s.time (cond (is_some o) 0 (time_or_zero (given_time c)))) k.1 ∙ ap (λ o. max s.time (time_or_zero o)) k.0

    -- once it has ended it has ended once, and is not open again
    second_over : (n : ℕ) → is_open n s ≡ false → times_ended n past ≡ 1 → (is_open n m.stepped ≡ false) × (times_ended n (m ∷ past) ≡ 1)
    second_over n k e = ((stepped_elsewhere n s m.stepped clock k).still_closed, ended_kept w p q n past m (not_ending w drawn number p q past m h clock reaches_time (did w s c) n k) ∙ e)

    second_by : (n t : ℕ) (f : Story) → story_of w p q n (history_of past) ≡ Some f → TimedAt t m → f.opening.time + 1000 ≤ t → Life w p q n past s → Stepped s m.stepped → (is_open n m.stepped ≡ false) × (times_ended n (m ∷ past) ≡ 1)
    second_by n t f e k l (unborn at u) clock = none_some f (sym u.no_story ∙ e)
    second_by n t f e k l (waiting a at o v) clock = second_over n at.shut v.ended_once
    second_by n t f e k l (gone at o g) clock = second_over n at.shut g.ended_once
    second_by n t f e k l (alive a at o live) (kept t' u d) =
        let same : live.story ≡ f = let g = live.is_its_story in cc in
        let late : leb a.deadline t' ≡ false = sym (ap (due t') at.current_is) ∙ d in
        let then : t' ≡ max s.time t = sym (ap (λ (v : RoomState P Q). v.time) u) ∙ reaches t k in
        let deadline : a.deadline ≡ f.opening.time + f.opening.interval = live.matches.deadline_is ∙ ap (λ (v : Story). deadline_of v.opening) same in
        let most : f.opening.interval ≤ 1000 = subst (λ (v : Story). v.opening.interval ≤ 1000) same live.at_most in
        let soon : t' < a.deadline = grind (arith, tests) in
        absurd (omega arith)
    second_by n t f e k l (alive a at o live) (expired t' b x y u) =
        let is : b ≡ a = let g = at.current_is in cc in
        let over =
        expired_ends w p q n past m time_now a live at (earlier w drawn number p q past m h clock reaches_time (did w s c) n o) (did w s c) t' (subst (λ (v : OpenValues). leb v.deadline t' ≡ true) is y) u in
        (ap (λ (v : RoomState P Q). is_open n v) u, over.over.ended_once)

    within_a_second : EndedWithinASecond w number p q past m
    within_a_second n t f e k l = second_by n t f e k l (h.lives n) clock

    -- Not by time too soon.
    soon_by : (n : ℕ) → is_open n s ≡ true → is_open n m.stepped ≡ false → IsOpen w p q n past s ⊎ IsShut w p q n past s → Stepped s m.stepped
        → (f : Story) × (story_of w p q n (history_of past) ≡ Some f) × (f.opening.time + 100 ≤ time_then (history_of (m ∷ past)))
    soon_by n k x (inr y) clock = true_false (sym k ∙ y.shut)
    soon_by n k x (inl o) (kept t u d) = true_false (sym k ∙ sym (ap (λ (v : RoomState P Q). is_open n v) u) ∙ x)
    soon_by n k x (inl o) (expired t b y l u) =
        let live = o.live in
        let is : b ≡ o.auction = let e = o.open_as.current_is in cc in
        let reached : leb o.auction.deadline t ≡ true = subst (λ (v : OpenValues). leb v.deadline t ≡ true) is l in
        let at : time_then (history_of (m ∷ past)) ≡ t = sym time_now ∙ ap (λ (v : RoomState P Q). v.time) u in
        let deadline : o.auction.deadline ≡ live.story.opening.time + live.story.opening.interval = live.matches.deadline_is in
        let least = live.at_least in
        (live.story, live.is_its_story, (let late : o.auction.deadline ≤ t = grind (arith, tests) in omega arith))

    not_too_soon : NotByTimeTooSoon w number p q past m
    not_too_soon n e = let shut = and_parts (is_open n s) _ e in soon_by n shut.0 (not-true (is_open n m.stepped) shut.1) (open_or_shut w p q n past s (h.lives n)) clock

    numbered_by : (n : ℕ) → Counted w m → opened_number m.answer ≡ Some n → n ≡ openings (history_of past) + 1
    numbered_by n (same c) e = none_some n (sym c.opens_none ∙ e)
    numbered_by n (more c) e =
        let told : m.stepped.opened + 1 ≡ n = let o = c.opens in cc in
        let then = stepped_opened s m.stepped clock in
        let count = h.counted in
        omega arith
    numbered_by n (fewer c) e = none_some n (sym c.opens_none ∙ e)

  -- Ended, not vanished: an auction waits in the room as long as it has ended and was not collected.
  pub waits_by : (n : ℕ) (v : RoomState P Q) (ms : List (Moment P T F Q)) → Life w p q n ms v → is_some (waiting_auction n v.waiting) ≡ waits_then w p q n (history_of ms)
  waits_by n v ms (unborn at u) = ap is_some at.none_waits ∙ sym (ap (λ k. is_over k && not (was_collected n (history_of ms))) u.no_story)
  waits_by n v ms (alive a at o live) =
      ap is_some at.none_waits ∙ sym (ap (λ k. is_over k && not (was_collected n (history_of ms))) live.is_its_story ∙ ap (λ (k : Option ℕ). is_some k && not (was_collected n (history_of ms))) live.goes_on)
  waits_by n v ms (waiting e at o over) =
      ap is_some at.waits
      ∙ sym (ap (λ k. is_over k && not (was_collected n (history_of ms))) over.is_its_story ∙ ap (λ (k : Option ℕ). is_some k && not (was_collected n (history_of ms))) over.cause_is ∙ ap not over.uncollected)
  waits_by n v ms (gone at o g) = ap is_some at.none_waits ∙ sym (and_right (is_over (story_of w p q n (history_of ms))) _ (ap not g.was_taken))

  -- which does not wait while it is open
  waits_alone : (n : ℕ) (v : RoomState P Q) (ms : List (Moment P T F Q)) → IsOpen w p q n ms v ⊎ IsShut w p q n ms v → (not (is_open n v) && is_some (waiting_auction n v.waiting)) ≡ is_some (waiting_auction n v.waiting)
  waits_alone n v ms (inl o) = and_right (not (is_open n v)) _ (ap is_some o.open_as.none_waits) ∙ sym (ap is_some o.open_as.none_waits)
  waits_alone n v ms (inr h) = ap (λ (b : Bool). not b && is_some (waiting_auction n v.waiting)) h.shut

  -- what an accepted opening opens
  opened_open : (m : Moment P T F Q) (n : ℕ) → OpenedHere w m ⊎ (opened_number m.answer ≡ None) → opened_number m.answer ≡ Some n → is_open n m.after ≡ true
  opened_open m n (inl d) h =
      let told = sym (ap (λ (k : Answer F). opened_number k) d.answer_is) ∙ h in
      let is : m.stepped.opened + 1 ≡ n = cc in
      ap (λ (v : RoomState P Q). is_open n v) d.after_is ∙ (let test : eqb (m.stepped.opened + 1) n ≡ true = grind (arith, tests) in test)
  opened_open m n (inr none) h = none_some n (sym none ∙ h)

  in_range : (n : ℕ) (v : RoomState P Q) (ms : List (Moment P T F Q)) → is_open n v ≡ true → IsOpen w p q n ms v ⊎ IsShut w p q n ms v → is_some (story_of w p q n (history_of ms)) ≡ true
  in_range n v ms k (inl o) = ap is_some o.live.is_its_story
  in_range n v ms k (inr h) = true_false (sym k ∙ h.shut)

  -- whether a collecting is accepted
  not_not_less : (n : ℕ) → not (ltb n 129) ≡ leb 129 n
  not_not_less n = grind (arith, tests)

  not_not : (b : Bool) → not (not b) ≡ b
  not_not true = refl
  not_not false = refl

  collect_accepted : (past : List (Moment P T F Q)) (s : RoomState P Q) (h : Holds w drawn number p q past s) (room auction rows : ℕ)
      → is_collected (step w s (Collect (record { room = room; auction = auction }) rows)).1 ≡ (leb 129 rows && (eqb room number && waits_then w p q auction (history_of past)))
  collect_accepted past s h room auction rows =
      accepted_by w (ltb rows 129) (not (eqb room s.number)) (is_number auction s.current) (waiting_auction auction s.waiting) s
      (λ e. with_waiting (without_number auction s.waiting) s) (λ e. record { count = length (fill_rows w e); cause = e.cause })
      ∙ ap (λ (b : Bool). b && (not (not (eqb room s.number)) && (not (is_number auction s.current) && is_some (waiting_auction auction s.waiting)))) (not_not_less rows)
      ∙ ap (λ (b : Bool). leb 129 rows && (b && (not (is_number auction s.current) && is_some (waiting_auction auction s.waiting)))) (not_not (eqb room s.number))
      ∙ ap (λ k. leb 129 rows && (eqb room k && (not (is_number auction s.current) && is_some (waiting_auction auction s.waiting)))) h.number_is
      ∙ ap (λ (b : Bool). leb 129 rows && (eqb room number && b)) (waits_alone auction s past (open_or_shut w p q auction past s (h.lives auction)) ∙ waits_by auction s past (h.lives auction))

  module _ (past : List (Moment P T F Q)) (s : RoomState P Q) (c : Call T) (h : Holds w drawn number p q past s) where
    when_due : CollectedWhenDue w number p q past (moment w s c)
    when_due room auction rows e = ap (λ (k : Call T). is_collected (step w s k).1) e ∙ collect_accepted past s h room auction rows

    not_vanished : EndedNotVanished w number p q past (moment w s c)
    not_vanished =
        let next = holds_after w drawn number p q past s c h in
        record {
          waits_until_collected = λ n. waits_by n (step w s c).0 (moment w s c ∷ past) (next.lives n);
          none_lost = next.none_lost;
          at_most_two = next.at_most_two;
          counted_from_one = λ n. numbered_by past s c h n (tally w drawn number p q past (moment w s c) h (clock past s c h) (stepped_time c s) (did w s c));
          opens_in_a_range = λ n e. let here = opened_open (moment w s c) n (opened_or_not w (moment w s c) (did w s c)) e in (here, in_range n (step w s c).0 (moment w s c ∷ past) here (open_or_shut w p q n (moment w s c ∷ past) (step w s c).0 (next.lives n)));
          market_permits_the_range = market_permits w drawn number p q past (moment w s c) h (clock past s c h) (stepped_time c s) (did w s c);
          collected_when_due = when_due;
        }

    -- For its causes and no others.
    caused_by : (n : ℕ) → is_open n s ≡ true → Fate w p q n past (moment w s c) → ends_at n (moment w s c) ≡ is_some (cause_at w p q n (history_of past) (exchange_of (moment w s c)))
    caused_by n k (inl f) = and_right (is_open n s) _ (ap not (open_here n (step w s c).0 f.as_it_stays f.open_now)) ∙ sym (ap is_some f.uncaused)
    caused_by n k (inr f) = and_from (is_open n s) _ k (ap not f.waits_now.shut) ∙ sym (ap is_some f.caused)

    -- an auction that is not open does not end, and no call brings it a cause
    caused_live : (n : ℕ) → IsOpen w p q n past s ⊎ IsShut w p q n past s → ends_at n (moment w s c) ≡ is_some (cause_at w p q n (history_of past) (exchange_of (moment w s c)))
    caused_live n (inl o) =
        caused_by n (open_here n s o.auction o.open_as) (fate_of w drawn number p q past (moment w s c) h (clock past s c h) (stepped_time c s) (did w s c) n o.auction o.open_as o.counted o.live)
    caused_live n (inr k) =
        ap (λ (b : Bool). b && not (is_open n (step w s c).0)) k.shut ∙ sym (ap (λ o. is_some (cause_by w p q o (history_of past) (exchange_of (moment w s c)))) k.goes_on)

    -- the auction that is collected is one that waits
    pub waits_over : (n : ℕ) (e : EndedValues) → waiting_auction n s.waiting ≡ Some e → IsWaiting w p q n past s ⊎ (waiting_auction n s.waiting ≡ None) → Over w p q n past e
    waits_over n e k (inl f) = let is : f.auction ≡ e = let z = f.waits_as.waits in cc in subst (Over w p q n past) is f.over
    waits_over n e k (inr none) = none_some e (sym none ∙ k)

    told_by : (auction : ℕ) → CollectedHere w (moment w s c) ⊎ (is_collected (step w s c).1 ≡ false) → (room rows : ℕ) → c ≡ Collect (record { room = room; auction = auction }) rows → is_collected (step w s c).1 ≡ true
        → told_cause (step w s c).1 ≡ cause_of w p q auction (history_of past)
    told_by auction (inl d) room rows e k =
        let is : d.claim.auction ≡ auction = ap (λ (z : ClaimNumbers). z.auction) (let same : d.claim ≡ record { room = room; auction = auction } = let j = d.call_is in cc in same) in
        let at : waiting_auction auction s.waiting ≡ Some d.auction = ap (λ (z : RoomState P Q). waiting_auction auction z.waiting) (sym d.no_clock_step) ∙ ap (λ i. waiting_auction i (moment w s c).stepped.waiting) (sym is) ∙ d.waited in
        let over = waits_over auction d.auction at (waits_or_not w p q auction past s (h.lives auction)) in
        ap (λ (z : Answer F). told_cause z) d.answer_is ∙ sym (over_cause w p q auction past d.auction over)
    told_by auction (inr none) room rows e k = true_false (sym k ∙ none)

    for_its_causes : EndedForItsCauses w number p q past (moment w s c)
    for_its_causes = record {
      ends_when_caused = λ n. caused_live n (open_or_shut w p q n past s (h.lives n));
      tells_the_cause = λ room auction rows e k. told_by auction (collected_or_not w (moment w s c) (did w s c)) room rows e k;
    }

-- of every run
pub auctions_end_as_ruled : {P T F Q : Type 0} (w : World P T F Q) → Terms w → AuctionsEndAsRuled w
auctions_end_as_ruled w terms number p q cs =
    let start = holds_new w terms.drawn_within number p q in
    let drawn = terms.drawn_within in (
      throughout w drawn number p q (EndedWithinASecond w number p q) (within_a_second w drawn number p q) [] (new_room number p q) cs start,
      throughout w drawn number p q (λ past. BusinessAfterTheClockStep w number p q) (λ past s c h. business_after w s c) [] (new_room number p q) cs start,
      throughout w drawn number p q (NotByTimeTooSoon w number p q) (not_too_soon w drawn number p q) [] (new_room number p q) cs start,
      throughout w drawn number p q (EndedNotVanished w number p q) (not_vanished w drawn number p q) [] (new_room number p q) cs start,
      throughout w drawn number p q (EndedForItsCauses w number p q) (for_its_causes w drawn number p q) [] (new_room number p q) cs start,
    )
