-- What a call does to the auction that is open when it comes: it ends exactly if the call brings one of its causes, for
-- the first of them, and otherwise stays open; either way its story then tells what the room holds.
use Rattle.std.proofs.Common.{◌≡◌, ◌⊎◌, inl, inr, ℕ, ◌+◌, ◌≤◌, Bool, true, false, cond, not, ◌&&◌, eqb, leb, List, [], ◌∷◌, ◌++◌, length, is_some, Some, None, Option, sym, refl, ap, ◌∙◌, subst}
use Rattle.std.proofs.lemmas.Bool.{and_from, and_left, and_right}
use Rattle.market.specs.declared.range.TurnedQuote.{TurnedQuote}
use Rattle.market.specs.Range.{turned_quote}
use Rattle.allocation.specs.declared.order.PairedOrder.{PairedOrder}
use Rattle.allocation.specs.Auction.{stood_responses}
use Rattle.room.specs.declared.answers.StoredTerms.{StoredTerms}
use Rattle.room.specs.Clock.{due}
use Rattle.room.specs.State.{OpenValues, EndedValues, RoomState, at_time, at_position, with_halted, with_current, after_end, waiting_after_end, is_number, waiting_auction, without_number}
use Rattle.room.specs.Ticks.{shown_above, shown_below, above_response, above_stop, ends_for, tick_cause, after_tick_cause, after_shown, at_floor, floor_now}
use Rattle.room.specs.World.{World}
use Rattle.session.specs.declared.call.Call.{Call}
use Rattle.session.specs.declared.call.Call.TheVariants.{Tick, Halt}
use Rattle.session.specs.History.{Exchange, Story, deadline_of, guarantee_of, opens, collects, is_accepted_tick, is_accepted_opening, opened_number, told_terms, is_accepted, is_collected, is_same, auction_in, tick_in, is_halt, plain_below, stood_after, storing_after, next_arrival, shown_or, is_above, is_below, stop_passed, above_one, position_then, time_then, market_at, shown_now, deadline_reached, plain_response_below_floor, is_accepted_halt, first_cause, stood_with, open_story_after, going_on, cause_by, cause_at}
use Rattle.session.specs.Inputs.{first_that_holds}
use Rattle.session.specs.Moments.{is_open, exchange_of, history_of}
use Rattle.session.specs.Reasons.{stored_by}
use Rattle.session.specs.Runs.{Answer, Accepted, Moment}
use Rattle.session.proofs.Ending.Apart.{Apart}
use Rattle.session.proofs.Ending.Elsewhere.{did_elsewhere, not_opened, not_collected}
use Rattle.session.proofs.Ending.Lives.{Stepped, kept, expired, OpenAs, WaitsAs, open_here, Alive, Over, story_lives, ended_kept, ended_now, collected_kept, above_is, below_is as below_shown, stop_is, above_one_is, floor_is_now}
use Rattle.session.proofs.Ending.Shapes.{Did, idle, opened, stored, ticks, halts, collected, Quiet, CountsThese, OpenedHere, StoredHere, CollectedHere, collected_or_not}
use Rattle.session.proofs.Linked.{Matches}
use Rattle.room.proofs.Sound.{Sound, tick_sound}
use Rattle.room.proofs.Tests.{none_some}
use Rattle.session.proofs.Ending.Waiting.{as_ended, numbered_new, once_new, numbered_without_other}
use Rattle.std.specs.Str.{byte}

-- What a call is to an open auction, but for the prices that a tick brings.
record Signs : Type 0 where
  pub late : Bool
  pub opening : Bool
  pub tick : Bool
  pub plain : Bool
  pub halt : Bool

abbrev no_signs : Signs
no_signs = record { late = false; opening = false; tick = false; plain = false; halt = false }

-- either way the same
same_either : {X : Type 0} (b : Bool) (x : X) → cond b x x ≡ x
same_either true x = refl
same_either false x = refl

module _ {P T F Q : Type 0} (w : World P T F Q) (p : P) (q : Q) where
  -- the auction ends here, for the first cause that the call brings, and waits
  pub record EndsHere (n : ℕ) (past : List (Moment P T F Q)) (m : Moment P T F Q) : Type 0 where
    pub as_it_waits : EndedValues
    pub caused : cause_at w p q n (history_of past) (exchange_of m) ≡ Some as_it_waits.cause
    pub waits_now : WaitsAs n m.after as_it_waits
    pub over : Over w p q n (m ∷ past) as_it_waits

  -- or it stays open
  pub record StaysHere (n : ℕ) (past : List (Moment P T F Q)) (m : Moment P T F Q) : Type 0 where
    pub as_it_stays : OpenValues
    pub uncaused : cause_at w p q n (history_of past) (exchange_of m) ≡ None
    pub open_now : OpenAs n m.after as_it_stays
    pub live : Alive w p q n (m ∷ past) as_it_stays

  abbrev pub Fate : ℕ → List (Moment P T F Q) → Moment P T F Q → Type 0
  Fate n past m = StaysHere n past m ⊎ EndsHere n past m

  module _ (n : ℕ) (past : List (Moment P T F Q)) (m : Moment P T F Q) (timed : m.stepped.time ≡ time_then (history_of (m ∷ past)))
      (a : OpenValues) (live : Alive w p q n past a) (held : OpenAs n m.before a) (o : n ≤ m.stepped.opened) (did : Did w m) where
    abbrev before : List (Exchange T F)
    before = history_of past

    abbrev x : Exchange T F
    x = exchange_of m

    abbrev s : Story
    s = live.story

    abbrev s_next : Story
    s_next = open_story_after w p q before x s

    -- the cause that the call brings, by its signs
    abbrev signs : Signs
    signs = record {
      late = deadline_reached w p q s (x ∷ before);
      opening = is_accepted_opening x;
      tick = is_accepted_tick x;
      plain = plain_response_below_floor s x;
      halt = is_accepted_halt x;
    }

    abbrev shown : TurnedQuote
    shown = shown_now w p q s (x ∷ before)

    abbrev cause_by_signs : Signs → Option ℕ
    cause_by_signs g =
        first_that_holds
        ((g.late, byte "T")
        ∷ ((g.opening, byte "A")
        ∷ ((g.tick && is_above shown.floor s.opening.range.initiating, byte "B")
        ∷ ((g.tick && above_one s.opening.order.side shown.floor s.stood, byte "C")
        ∷ ((g.tick && stop_passed (guarantee_of s.opening).kind shown.floor (guarantee_of s.opening).price, byte "D")
        ∷ ((g.tick && is_below shown.contra (guarantee_of s.opening).price, byte "F")
        ∷ ((g.plain, byte "E")
        ∷ ((g.halt, byte "H")
        ∷ []))))))))

    cause_is : (g : Signs) → signs ≡ g → first_cause w p q before x s ≡ cause_by_signs g
    cause_is g h = ap cause_by_signs h

    -- the causes, by the story
    cause_by_story : cause_at w p q n before x ≡ first_cause w p q before x s
    cause_by_story =
        ap (λ o. cause_by w p q (going_on o) before x) live.is_its_story
        ∙ ap (λ (b : Bool). cause_by w p q (cond b None (Some s)) before x) (ap is_some live.goes_on)

    -- What the call makes of floor, responses and members that stored: nothing, where it is told nothing of a response, or
    -- the deadline was reached.
    floor_kept : (is_accepted_tick x && not (is_some (first_cause w p q before x s))) ≡ false → s_next.floor ≡ s.floor
    floor_kept h = ap (λ (b : Bool). cond b (shown_or (shown_now w p q s (x ∷ before)).floor s.floor) s.floor) h

    floor_moved : is_accepted_tick x ≡ true → first_cause w p q before x s ≡ None → s_next.floor ≡ shown_or (shown_now w p q s (x ∷ before)).floor s.floor
    floor_moved h k =
        ap (λ (b : Bool). cond (b && not (is_some (first_cause w p q before x s))) (shown_or (shown_now w p q s (x ∷ before)).floor s.floor) s.floor) h
        ∙ ap (λ (o : Option ℕ). cond (not (is_some o)) (shown_or (shown_now w p q s (x ∷ before)).floor s.floor) s.floor) k

    stood_late : signs.late ≡ true → s_next.stood ≡ s.stood
    stood_late h = ap (λ (b : Bool). cond b s.stood (stood_with w p q before x s (told_terms m.answer))) h

    storing_late : signs.late ≡ true → s_next.storers ≡ s.storers
    storing_late h = ap (λ (b : Bool). cond b (storing_after m.call s.storers) s.storers) (and_right (is_some (told_terms m.answer)) _ (ap not h))

    stood_quiet : told_terms m.answer ≡ None → s_next.stood ≡ s.stood
    stood_quiet h = ap (λ o. cond signs.late s.stood (stood_with w p q before x s o)) h ∙ same_either signs.late s.stood

    storing_quiet : told_terms m.answer ≡ None → s_next.storers ≡ s.storers
    storing_quiet h = ap (λ (o : Option StoredTerms). cond (is_some o && not signs.late) (storing_after m.call s.storers) s.storers) h

    stood_stored : (t : StoredTerms) → signs.late ≡ false → told_terms m.answer ≡ Some t → s_next.stood ≡ stood_after m.call t (next_arrival s) s.stood
    stood_stored t h k = ap (λ (b : Bool). cond b s.stood (stood_with w p q before x s (told_terms m.answer))) h ∙ ap (stood_with w p q before x s) k

    storing_stored : (t : StoredTerms) → signs.late ≡ false → told_terms m.answer ≡ Some t → s_next.storers ≡ storing_after m.call s.storers
    storing_stored t h k =
        ap (λ (b : Bool). cond (is_some (told_terms m.answer) && not b) (storing_after m.call s.storers) s.storers) h
        ∙ ap (λ (o : Option StoredTerms). cond (is_some o && true) (storing_after m.call s.storers) s.storers) k

    -- the auction as it was
    matches_as_it_was : s_next.floor ≡ s.floor → s_next.stood ≡ s.stood → s_next.storers ≡ s.storers → Matches s_next a
    matches_as_it_was f g k =
        let was = live.matches in
        record {
          order_is = was.order_is;
          initiating_is = was.initiating_is;
          floor_is = was.floor_is ∙ sym f;
          stood_is = was.stood_is ∙ sym g;
          deadline_is = was.deadline_is;
          arrivals_is = was.arrivals_is ∙ ap length (sym k);
          used_is = λ i h l. was.used_is i h l ∙ ap (stored_by i) (sym k);
          sound = was.sound;
        }

    -- An auction as the call leaves it: its story tells what it holds.
    record LeftAs (b : OpenValues) : Type 0 where
      pub same_number : eqb b.number n ≡ true
      pub matches : Matches s_next b
      pub apart : Apart b
      pub a_count_each : length b.used ≡ 16

    left_as_it_was : Matches s_next a → LeftAs a
    left_as_it_was h = record { same_number = held.number_is; matches = h; apart = live.apart; a_count_each = live.a_count_each }

    left_quiet : told_terms m.answer ≡ None → (is_accepted_tick x && not (is_some (first_cause w p q before x s))) ≡ false → LeftAs a
    left_quiet k f = left_as_it_was (matches_as_it_was (floor_kept f) (stood_quiet k) (storing_quiet k))

    was_open : is_open n m.before ≡ true
    was_open = open_here n m.before a held

    unopened : opens n x ≡ false
    unopened = not_opened w n m did o

    -- one that has just ended, for this cause, waits behind the others
    waits_behind : (c : ℕ) (b : OpenValues) → eqb b.number n ≡ true → (v : RoomState P Q) → v.waiting ≡ m.before.waiting ++ as_ended c b ∷ [] → is_open n v ≡ false → WaitsAs n v (as_ended c b)
    waits_behind c b i v e k = record {
      waits = ap (waiting_auction n) e ∙ numbered_new n m.before.waiting (as_ended c b) held.none_waits i;
      once = ap (λ es. waiting_auction n (without_number n es)) e ∙ once_new n m.before.waiting (as_ended c b) held.none_waits i;
      shut = k;
    }

    ends_now : (c : ℕ) (b : OpenValues) → LeftAs b → collects n x ≡ false → WaitsAs n m.after (as_ended c b) → first_cause w p q before x s ≡ Some c → EndsHere n past m
    ends_now c b left u waits f = record {
      as_it_waits = as_ended c b;
      caused = cause_by_story ∙ f;
      waits_now = waits;
      over = record {
        story = s_next;
        is_its_story = story_lives w p q n past m s unopened live.is_its_story live.goes_on;
        was = b;
        as_it_was = refl;
        matches = left.matches;
        apart = left.apart;
        cause_is = f;
        from_one = live.from_one;
        ended_once = ended_now w p q n past m (and_from (is_open n m.before) _ was_open (ap not waits.shut)) live.unended;
        uncollected = collected_kept w p q n past m u ∙ live.uncollected;
      };
    }

    stays_now : (b : OpenValues) → LeftAs b → collects n x ≡ false → m.after.current ≡ Some b → waiting_auction n m.after.waiting ≡ None → first_cause w p q before x s ≡ None → Fate n past m
    stays_now b left u e z f =
        let now : OpenAs n m.after b = record { current_is = e; number_is = left.same_number; none_waits = z } in
        inl (record {
          as_it_stays = b;
          uncaused = cause_by_story ∙ f;
          open_now = now;
          live = record {
            story = s_next;
            is_its_story = story_lives w p q n past m s unopened live.is_its_story live.goes_on;
            goes_on = f;
            matches = left.matches;
            apart = left.apart;
            a_count_each = left.a_count_each;
            from_one = live.from_one;
            at_least = live.at_least;
            at_most = live.at_most;
            unended = ended_kept w p q n past m (and_right (is_open n m.before) _ (ap not (open_here n m.after b now))) ∙ live.unended;
            uncollected = collected_kept w p q n past m u ∙ live.uncollected;
          };
        })

    -- whether the deadline is reached
    reached_by : (t : ℕ) → m.stepped.time ≡ t → signs.late ≡ leb a.deadline t
    reached_by t e = ap (leb (deadline_of s.opening)) (sym timed ∙ e) ∙ ap (λ k. leb k t) (sym live.matches.deadline_is)

    -- Cause T. After the clock step nothing more happens to the auction.
    not_collected_now : CollectedHere w m ⊎ (is_collected m.answer ≡ false) → m.stepped.current ≡ None → m.before.current ≡ Some a → collects n x ≡ false
    not_collected_now (inl d) h c = none_some a (sym h ∙ ap (λ (z : RoomState P Q). z.current) d.no_clock_step ∙ c)
    not_collected_now (inr none) h c = ap (λ (b : Bool). b && is_same n (auction_in m.call)) none

    pub expired_ends : (t : ℕ) → leb a.deadline t ≡ true → m.stepped ≡ after_end (byte "T") (at_time t m.before) → EndsHere n past m
    expired_ends t l e =
        let none : m.stepped.current ≡ None = ap (λ (v : RoomState P Q). v.current) e in
        let uncollected = not_collected_now (collected_or_not w m did) none held.current_is in
        let waits_so : m.stepped.waiting ≡ m.before.waiting ++ as_ended (byte "T") a ∷ [] = ap (λ (v : RoomState P Q). v.waiting) e ∙ ap (λ v. waiting_after_end (byte "T") v m.before.waiting) held.current_is in
        let then = waits_behind (byte "T") a held.number_is m.stepped waits_so (ap (is_number n) none) in
        let rest = did_elsewhere w n m did then.shut unopened uncollected in
        let reached : signs.late ≡ true = reached_by t (ap (λ (v : RoomState P Q). v.time) e) ∙ l in
        let late : signs ≡ record signs { late = true } = λ i. record signs { late = reached i } in
        let caused = cause_is _ late in
        let floor_stays = and_right (is_accepted_tick x) _ (ap (λ (k : Option ℕ). not (is_some k)) caused) in
        ends_now (byte "T") a (left_as_it_was (matches_as_it_was (floor_kept floor_stays) (stood_late reached) (storing_late reached))) uncollected
        (record { waits = rest.same_waiting ∙ then.waits; once = rest.still_once then.once; shut = rest.still_closed }) caused

    -- No deadline is reached: the shapes one by one.
    module _ (t : ℕ) (e : m.stepped ≡ at_time t m.before) (d : due t m.before.current ≡ false) (at : m.before.position ≡ market_at w p q before) where
      current_then : m.stepped.current ≡ Some a
      current_then = ap (λ (v : RoomState P Q). v.current) e ∙ held.current_is

      waiting_then : m.stepped.waiting ≡ m.before.waiting
      waiting_then = ap (λ (v : RoomState P Q). v.waiting) e

      none_then : waiting_auction n m.stepped.waiting ≡ None
      none_then = ap (waiting_auction n) waiting_then ∙ held.none_waits

      uncollected : collects n x ≡ false
      uncollected = not_collected w n m did none_then

      early : signs.late ≡ false
      early = reached_by t (ap (λ (z : RoomState P Q). z.time) e) ∙ sym (ap (due t) held.current_is) ∙ d

      -- it ends by the call's own business
      ends_in : (c : ℕ) (b : OpenValues) → LeftAs b → m.after.waiting ≡ waiting_after_end c (Some b) m.stepped.waiting → is_open n m.after ≡ false → first_cause w p q before x s ≡ Some c → Fate n past m
      ends_in c b left f k g = inr (ends_now c b left uncollected (waits_behind c b left.same_number m.after (f ∙ ap (λ es. es ++ as_ended c b ∷ []) waiting_then) k) g)

      -- it stays as another, where none more waits
      stays_in : (b : OpenValues) → LeftAs b → m.after.current ≡ Some b → m.after.waiting ≡ m.stepped.waiting → first_cause w p q before x s ≡ None → Fate n past m
      stays_in b left f k g = stays_now b left uncollected f (ap (waiting_auction n) k ∙ none_then) g

      no_tick : is_accepted_tick x ≡ false → (is_accepted_tick x && not (is_some (first_cause w p q before x s))) ≡ false
      no_tick h = and_left (is_accepted_tick x) _ h

      -- a call that brings nothing
      fate_idle : (b : Bool) → m.after ≡ with_halted b m.stepped → Quiet m.call m.answer → Fate n past m
      fate_idle b f k =
          let quiet : signs ≡ no_signs = λ i. record {
            late = early i;
            opening = ap is_some k.opens_none i;
            tick = k.ticks_none i;
            plain = and_left (is_some (told_terms m.answer)) (plain_below s.opening.order.side s.floor m.call) (ap is_some k.stores_none) i;
            halt = k.halts_none i;
          } in
          stays_in a (left_quiet k.stores_none (no_tick k.ticks_none)) (ap (λ (v : RoomState P Q). v.current) f ∙ current_then) (ap (λ (v : RoomState P Q). v.waiting) f) (cause_is no_signs quiet)

      -- another opening is accepted
      fate_opened : OpenedHere w m → Fate n past m
      fate_opened here =
          let y = here.answer_is in
          let f = here.after_is in
          let opens_next : signs ≡ record signs { late = false; opening = true } = λ i. record signs { late = early i; opening = ap (λ (k : Answer F). is_some (opened_number k)) y i } in
          ends_in (byte "A") a (left_quiet (ap (λ (k : Answer F). told_terms k) y) (no_tick (ap (λ (k : Answer F). is_accepted k && is_some (tick_in m.call)) y)))
          (ap (λ (v : RoomState P Q). v.waiting) f ∙ ap (λ k. waiting_after_end (byte "A") k m.stepped.waiting) current_then)
          (ap (λ (v : RoomState P Q). is_open n v) f ∙ sym (ap (λ (k : Answer F). is_same n (opened_number k)) y) ∙ unopened)
          (cause_is _ opens_next)

      -- a response, a change or a withdrawal is accepted
      module _ (here : StoredHere w m) (is : here.was ≡ a) where
        abbrev b : OpenValues
        b = here.now

        quiet_tick : is_accepted_tick x ≡ false
        quiet_tick = ap (λ (k : Answer F). is_accepted k && is_some (tick_in m.call)) here.answer_is

        told_so : told_terms m.answer ≡ Some here.terms
        told_so = ap (λ (k : Answer F). told_terms k) here.answer_is

        counts_now : CountsThese (storing_after m.call s.storers) b
        counts_now =
            let was = live.matches in
            here.counts (ap (λ (v : OpenValues). length v.used) is ∙ live.a_count_each) s.storers (subst (CountsThese s.storers) (sym is) (record { all = was.arrivals_is; of_each = was.used_is }))

        matches_stored : Matches s_next b
        matches_stored =
            let was = live.matches in
            let same = here.same in
            let storing = storing_stored here.terms early told_so in
            record {
              order_is = same.same_order ∙ ap (λ (v : OpenValues). v.values.order) is ∙ was.order_is;
              initiating_is = same.same_initiating ∙ ap (λ (v : OpenValues). v.values.initiating) is ∙ was.initiating_is;
              floor_is = same.same_floor ∙ ap (λ (v : OpenValues). v.values.floor) is ∙ was.floor_is ∙ sym (floor_kept (no_tick quiet_tick));
              stood_is = here.stood_is ∙ ap (λ (v : OpenValues). stood_after m.call here.terms (v.arrivals + 1) (stood_responses v.values)) is
                  ∙ ap (λ k. stood_after m.call here.terms (k + 1) (stood_responses a.values)) was.arrivals_is ∙ ap (stood_after m.call here.terms (next_arrival s)) was.stood_is ∙ sym (stood_stored here.terms early told_so);
              deadline_is = same.same_deadline ∙ ap (λ (v : OpenValues). v.deadline) is ∙ was.deadline_is;
              arrivals_is = counts_now.all ∙ ap length (sym storing);
              used_is = λ k h l. counts_now.of_each k h l ∙ ap (stored_by k) (sym storing);
              sound = here.sound (subst (λ (v : OpenValues). Sound v.values) (sym is) was.sound);
            }

        below_is : signs.plain ≡ plain_below here.was.values.order.side here.was.values.floor m.call
        below_is =
            ap (λ (k : Answer F). is_some (told_terms k) && plain_below s.opening.order.side s.floor m.call) here.answer_is
            ∙ ap (λ k. plain_below s.opening.order.side k m.call) (sym live.matches.floor_is)
            ∙ ap (λ (k : PairedOrder). plain_below k.side a.values.floor m.call) (sym live.matches.order_is)
            ∙ ap (λ (v : OpenValues). plain_below v.values.order.side v.values.floor m.call) (sym is)

        left_stored : LeftAs b
        left_stored = record {
          same_number = ap (λ k. eqb k n) here.same.same_number ∙ ap (λ (v : OpenValues). eqb v.number n) is ∙ held.number_is;
          matches = matches_stored;
          apart = here.apart (subst Apart (sym is) live.apart);
          a_count_each = here.same.as_many_counts ∙ ap (λ (v : OpenValues). length v.used) is ∙ live.a_count_each;
        }

        signs_stored : (l : Bool) → plain_below here.was.values.order.side here.was.values.floor m.call ≡ l → signs ≡ record no_signs { plain = l }
        signs_stored l h = λ i. record {
          late = early i;
          opening = ap (λ (k : Answer F). is_some (opened_number k)) here.answer_is i;
          tick = quiet_tick i;
          plain = (below_is ∙ h) i;
          halt = ap (λ (k : Answer F). is_accepted k && is_halt m.call) here.answer_is i;
        }

        fate_stored : (l : Bool) → plain_below here.was.values.order.side here.was.values.floor m.call ≡ l
            → m.after ≡ cond l (after_end (byte "E") (with_current b m.stepped)) (with_current b m.stepped) → Fate n past m
        fate_stored true h f = ends_in (byte "E") b left_stored (ap (λ (v : RoomState P Q). v.waiting) f) (ap (λ (v : RoomState P Q). is_open n v) f) (cause_is _ (signs_stored true h))
        fate_stored false h f = stays_in b left_stored (ap (λ (v : RoomState P Q). v.current) f) (ap (λ (v : RoomState P Q). v.waiting) f) (cause_is _ (signs_stored false h))

      -- a tick is accepted
      module _ (g : ℕ) (tick : T) (j : m.call ≡ Tick g tick) (y : m.answer ≡ Accepted) where
        abbrev position_next : P
        position_next = w.market.next m.stepped.position tick

        market_next : market_at w p q (x ∷ before) ≡ position_next
        market_next =
            ap (λ (k : Answer F). position_then w.market.next (is_accepted k) (tick_in m.call) (market_at w p q before)) y
            ∙ ap (λ (k : Call T). position_then w.market.next true (tick_in k) (market_at w p q before)) j
            ∙ ap (λ k. w.market.next k tick) (sym at ∙ sym (ap (λ (v : RoomState P Q). v.position) e))

        abbrev quote_now : TurnedQuote
        quote_now = turned_quote a.values.order.side (w.market.shows position_next)

        shown_is : shown_now w p q s (x ∷ before) ≡ quote_now
        shown_is =
            ap (λ (k : PairedOrder). turned_quote k.side (w.market.shows (market_at w p q (x ∷ before)))) (sym live.matches.order_is)
            ∙ ap (λ k. turned_quote a.values.order.side (w.market.shows k)) market_next

        was_ticked : is_accepted_tick x ≡ true
        was_ticked = ap (λ (k : Answer F). is_accepted k && is_some (tick_in m.call)) y ∙ ap (λ (k : Call T). is_some (tick_in k)) j

        ticked_signs : signs ≡ record no_signs { tick = true }
        ticked_signs = λ i. record {
          late = early i;
          opening = ap (λ (k : Answer F). is_some (opened_number k)) y i;
          tick = was_ticked i;
          plain = ap (λ (k : Answer F). is_some (told_terms k) && plain_below s.opening.order.side s.floor m.call) y i;
          halt = (ap (λ (k : Answer F). is_accepted k && is_halt m.call) y ∙ ap (λ (k : Call T). is_halt k) j) i;
        }

        -- the prices that the tick brings, by the story and by the room
        initiating_passed : is_above shown.floor s.opening.range.initiating ≡ shown_above quote_now.floor a.values.initiating
        initiating_passed =
            ap (λ (k : TurnedQuote). is_above k.floor s.opening.range.initiating) shown_is ∙ ap (λ k. is_above quote_now.floor k) (sym live.matches.initiating_is)
            ∙ above_is quote_now.floor a.values.initiating

        response_passed : above_one s.opening.order.side shown.floor s.stood ≡ above_response quote_now.floor a.values.stood
        response_passed =
            ap (λ (k : TurnedQuote). above_one s.opening.order.side k.floor s.stood) shown_is
            ∙ ap (λ k. above_one s.opening.order.side quote_now.floor k) (sym live.matches.stood_is)
            ∙ ap (λ (k : PairedOrder). above_one k.side quote_now.floor (stood_responses a.values)) (sym live.matches.order_is)
            ∙ above_one_is a.values.order.side quote_now.floor a.values.stood

        stop_is_passed : stop_passed (guarantee_of s.opening).kind shown.floor (guarantee_of s.opening).price ≡ above_stop quote_now.floor a.values.order.guarantee.kind a.values.order.guarantee.price
        stop_is_passed =
            ap (λ (k : TurnedQuote). stop_passed (guarantee_of s.opening).kind k.floor (guarantee_of s.opening).price) shown_is
            ∙ ap (λ (k : PairedOrder). stop_passed k.guarantee.kind quote_now.floor k.guarantee.price) (sym live.matches.order_is)
            ∙ stop_is a.values.order.guarantee.kind quote_now.floor a.values.order.guarantee.price

        guarantee_passed : is_below shown.contra (guarantee_of s.opening).price ≡ shown_below quote_now.contra a.values.order.guarantee.price
        guarantee_passed =
            ap (λ (k : TurnedQuote). is_below k.contra (guarantee_of s.opening).price) shown_is
            ∙ ap (λ (k : PairedOrder). is_below quote_now.contra k.guarantee.price) (sym live.matches.order_is)
            ∙ below_shown quote_now.contra a.values.order.guarantee.price

        tick_cause_is : first_cause w p q before x s ≡ tick_cause a.values quote_now
        tick_cause_is =
            cause_is _ ticked_signs
            ∙ (λ i. ends_for (initiating_passed i) (byte "B") (ends_for (response_passed i) (byte "C") (ends_for (stop_is_passed i) (byte "D") (ends_for (guarantee_passed i) (byte "F") None))))

        told_none : told_terms m.answer ≡ None
        told_none = ap (λ (k : Answer F). told_terms k) y

        -- the same auction at the new floor
        abbrev refloored : OpenValues
        refloored = at_floor (floor_now quote_now.floor a.values.floor) a

        matches_refloored : tick_cause a.values quote_now ≡ None → Matches s_next refloored
        matches_refloored h =
            let was = live.matches in
            record {
              order_is = was.order_is;
              initiating_is = was.initiating_is;
              floor_is = ap (floor_now quote_now.floor) was.floor_is ∙ sym (floor_moved was_ticked (tick_cause_is ∙ h) ∙ ap (λ (k : TurnedQuote). shown_or k.floor s.floor) shown_is ∙ floor_is_now quote_now.floor s.floor);
              stood_is = was.stood_is ∙ sym (stood_quiet told_none);
              deadline_is = was.deadline_is;
              arrivals_is = was.arrivals_is ∙ ap length (sym (storing_quiet told_none));
              used_is = λ k l u. was.used_is k l u ∙ ap (stored_by k) (sym (storing_quiet told_none));
              sound = tick_sound a.values quote_now h was.sound;
            }

        fate_ticked : (k : Option ℕ) → tick_cause a.values quote_now ≡ k → m.after ≡ after_tick_cause k quote_now (at_position position_next m.stepped) a → Fate n past m
        fate_ticked (Some h) k f =
            let caused = tick_cause_is ∙ k in
            ends_in h a (left_quiet told_none (and_right (is_accepted_tick x) _ (ap (λ (v : Option ℕ). not (is_some v)) caused)))
            (ap (λ (v : RoomState P Q). v.waiting) f ∙ ap (λ v. waiting_after_end h v m.stepped.waiting) current_then) (ap (λ (v : RoomState P Q). is_open n v) f) caused
        fate_ticked None k f =
            stays_in refloored
            (record {
              same_number = held.number_is;
              matches = matches_refloored k;
              apart = record { arrived = live.apart.arrived; arrivals = live.apart.arrivals; owns = live.apart.owns };
              a_count_each = live.a_count_each;
            })
            (ap (λ (v : RoomState P Q). v.current) f) (ap (λ (v : RoomState P Q). v.waiting) f) (tick_cause_is ∙ k)

      -- a halt is accepted
      fate_halted : (g : ℕ) → m.call ≡ Halt g → m.answer ≡ Accepted → m.after ≡ with_halted true (after_end (byte "H") m.stepped) → Fate n past m
      fate_halted g j y f =
          let no_ticks : is_accepted_tick x ≡ false = ap (λ (k : Answer F). is_accepted k && is_some (tick_in m.call)) y ∙ ap (λ (k : Call T). is_some (tick_in k)) j in
          let halted : signs ≡ record no_signs { halt = true } = λ i. record {
            late = early i;
            opening = ap (λ (k : Answer F). is_some (opened_number k)) y i;
            tick = no_ticks i;
            plain = ap (λ (k : Answer F). is_some (told_terms k) && plain_below s.opening.order.side s.floor m.call) y i;
            halt = (ap (λ (k : Answer F). is_accepted k && is_halt m.call) y ∙ ap (λ (k : Call T). is_halt k) j) i;
          } in
          ends_in (byte "H") a (left_quiet (ap (λ (k : Answer F). told_terms k) y) (no_tick no_ticks))
          (ap (λ (v : RoomState P Q). v.waiting) f ∙ ap (λ v. waiting_after_end (byte "H") v m.stepped.waiting) current_then) (ap (λ (v : RoomState P Q). is_open n v) f)
          (cause_is _ halted)

      -- another auction is collected
      fate_collected : CollectedHere w m → Fate n past m
      fate_collected here =
          let y = here.answer_is in
          let f = here.after_is in
          let other : eqb here.claim.auction n ≡ false =
          sym (ap (λ (v : Answer F). is_collected v && is_same n (auction_in m.call)) y ∙ ap (λ (v : Call T). is_same n (auction_in v)) here.call_is) ∙ uncollected in
          let no_ticks : is_accepted_tick x ≡ false = ap (λ (v : Answer F). is_accepted v && is_some (tick_in m.call)) y in
          let quiet : signs ≡ no_signs = λ i. record {
            late = early i;
            opening = ap (λ (k : Answer F). is_some (opened_number k)) y i;
            tick = no_ticks i;
            plain = ap (λ (k : Answer F). is_some (told_terms k) && plain_below s.opening.order.side s.floor m.call) y i;
            halt = ap (λ (k : Answer F). is_accepted k && is_halt m.call) y i;
          } in
          stays_now a (left_quiet (ap (λ (v : Answer F). told_terms v) y) (no_tick no_ticks)) uncollected (ap (λ (v : RoomState P Q). v.current) f ∙ current_then)
          (ap (λ (v : RoomState P Q). waiting_auction n v.waiting) f ∙ numbered_without_other here.claim.auction n m.stepped.waiting other ∙ none_then) (cause_is no_signs quiet)

      same_auction : (b : OpenValues) → m.stepped.current ≡ Some b → b ≡ a
      same_auction b h = let g = current_then in cc

      fate_kept : Did w m → Fate n past m
      fate_kept (idle b u f k) = fate_idle b f k
      fate_kept (opened here) = fate_opened here
      fate_kept (stored here) = fate_stored here (same_auction here.was here.was_open) (plain_below here.was.values.order.side here.was.values.floor m.call) refl here.after_is
      fate_kept (ticks g tick j y f) =
          let next = w.market.next m.stepped.position tick in
          fate_ticked g tick j y (tick_cause a.values (turned_quote a.values.order.side (w.market.shows next))) refl
          (f ∙ ap (λ v. after_shown v (w.market.shows next) (at_position next m.stepped)) current_then)
      fate_kept (halts g j y f) = fate_halted g j y f
      fate_kept (collected here) = fate_collected here

    -- whatever the call
    pub fate : Stepped m.before m.stepped → m.before.position ≡ market_at w p q before → Fate n past m
    fate (kept t e d) at = fate_kept t e d at did
    fate (expired t b u l e) at =
        let is : b ≡ a = let c = held.current_is in cc in
        inr (expired_ends t (subst (λ (v : OpenValues). leb v.deadline t ≡ true) is l) e)
