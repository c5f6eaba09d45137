-- What looks tell: the history.
use Rattle.std.proofs.Common.{◌≡◌, ◌⊎◌, inl, inr, ℕ, Bool, true, false, cond, not, leb, List, [], ◌∷◌, is_some, Some, None, Option, sym, refl, ap, ◌∙◌, arith}
use Rattle.std.proofs.lemmas.Bool.Decides.{nat_tests}
use Rattle.std.specs.Option.{option_map}
use Rattle.interval.specs.Source.{WithinLimits}
use Rattle.market.specs.Side.{turned_price}
use Rattle.allocation.specs.declared.order.PairedOrder.{PairedOrder}
use Rattle.room.specs.Looks.{auction_view, look_call}
use Rattle.room.specs.State.{OpenValues, RoomState, is_number, new_room}
use Rattle.room.specs.World.{World, Terms}
use Rattle.session.specs.declared.call.Call.{Call}
use Rattle.session.specs.History.{Exchange, Story, deadline_of, time_then, going_on, not_due, story_of, openings, open_story, story_view, view_then}
use Rattle.session.specs.Moments.{is_open, history_of}
use Rattle.room.specs.Clock.{due}
use Rattle.session.proofs.Ending.Lives.{Stepped, kept, expired, open_here, IsOpen, IsShut, open_or_shut}
use Rattle.session.proofs.Ending.Elsewhere.{stepped_elsewhere}
use Rattle.session.specs.Looking.{LooksTellTheHistory, LooksTellTheHistoryInRuns, RoomHoldsTheHistory, RoomsHoldTheHistory}
use Rattle.session.specs.Runs.{Looked, Moment, moment, step}
use Rattle.session.proofs.Ending.AsTold.{linked}
use Rattle.session.proofs.Ending.Held.{Holds, holds_new, holds_after, clock_of}
use Rattle.session.proofs.Ending.Laws.{throughout, time_now}
use Rattle.session.proofs.Linked.{Linked, Matches, Current, none_open, one_open}

-- an open auction shows what its opening told
auction_shows : (n : ℕ) (a : OpenValues) (s : Story) → a.number ≡ n → Matches s a → auction_view a ≡ story_view n s
auction_shows n a s e h =
    ap (λ k. record { number = k; side = a.values.order.side; size = a.values.order.size; initiating = turned_price a.values.order.side a.values.initiating }) e
    ∙ ap (λ (o : PairedOrder). record { number = n; side = o.side; size = o.size; initiating = turned_price o.side a.values.initiating }) h.order_is
    ∙ ap (λ z. record { number = n; side = s.opening.order.side; size = s.opening.order.size; initiating = turned_price s.opening.order.side z }) h.initiating_is

current_shows : (n : ℕ) (o : Option OpenValues) (s : Option Story) → is_number n o ≡ is_some s → Current o s → option_map auction_view o ≡ option_map (story_view n) s
current_shows n o s e none_open = refl
current_shows n o s e (one_open a f h) = let is : a.number ≡ n = grind (arith, nat_tests) in ap Some (auction_shows n a f is h)

module _ {P T F Q : Type 0} (w : World P T F Q) (number : ℕ) (p : P) (q : Q) where
  pub look_tells : (past : List (Exchange T F)) (s : RoomState P Q) → Linked w number p q past s → look_call s ≡ view_then w p q past
  look_tells past s h =
      let shows = current_shows (openings past) s.current (open_story w p q past) (h.is_open (openings past)) h.current in
      let time = h.time_is in
      let halted = h.halted_is in
      let waiting = h.waiting_is in
      cc

  -- An auction is open behind the clock step exactly if it was open and the time does not reach its deadline.
  module _ (n : ℕ) (past : List (Moment P T F Q)) (s u : RoomState P Q) (t : ℕ) (time : u.time ≡ t) where
    not_due_by : (f : Story) (b : Bool) → leb (deadline_of f.opening) t ≡ b → is_some (not_due t (Some f)) ≡ not b
    not_due_by f true e = ap (λ (b : Bool). is_some (cond b None (Some f))) e
    not_due_by f false e = ap (λ (b : Bool). is_some (cond b None (Some f))) e

    stepped_by_life : IsOpen w p q n past s ⊎ IsShut w p q n past s → Stepped s u → is_open n u ≡ is_some (not_due t (going_on (story_of w p q n (history_of past))))
    stepped_by_life (inr h) clock = (stepped_elsewhere n s u clock h.shut).still_closed ∙ sym (ap (λ o. is_some (not_due t o)) h.goes_on)
    stepped_by_life (inl o) (kept k y z) =
        let a = o.auction in
        let f = o.live.story in
        let at : k ≡ t = sym (ap (λ (v : RoomState P Q). v.time) y) ∙ time in
        let late : leb (deadline_of f.opening) t ≡ false = ap (λ j. leb j t) (sym o.live.matches.deadline_is) ∙ ap (leb a.deadline) (sym at) ∙ sym (ap (due k) o.open_as.current_is) ∙ z in
        ap (is_open n) y ∙ open_here n s a o.open_as ∙ sym (ap (λ o. is_some (not_due t o)) o.goes_on ∙ not_due_by f false late)
    stepped_by_life (inl o) (expired k b x y z) =
        let a = o.auction in
        let f = o.live.story in
        let at : k ≡ t = sym (ap (λ (v : RoomState P Q). v.time) z) ∙ time in
        let is : b ≡ a = let c = o.open_as.current_is in cc in
        let late : leb (deadline_of f.opening) t ≡ true = ap (λ j. leb j t) (sym o.live.matches.deadline_is) ∙ ap (leb a.deadline) (sym at) ∙ ap (λ (v : OpenValues). leb v.deadline k) (sym is) ∙ y in
        ap (is_open n) z ∙ sym (ap (λ o. is_some (not_due t o)) o.goes_on ∙ not_due_by f true late)

  module _ (drawn : WithinLimits w.source) (past : List (Moment P T F Q)) (s : RoomState P Q) (c : Call T) (h : Holds w drawn number p q past s) where
    next_linked : Linked w number p q (history_of (moment w s c ∷ past)) (step w s c).0
    next_linked = linked w drawn number p q (moment w s c ∷ past) (step w s c).0 (holds_after w drawn number p q past s c h)

    looks_tell : LooksTellTheHistory w p q past (moment w s c)
    looks_tell = record {
      look = λ e. ap (λ (k : Call T). (step w s k).1) e ∙ ap Looked (look_tells (history_of past) s (linked w drawn number p q past s h));
      look_next = ap Looked (look_tells (history_of (moment w s c ∷ past)) (step w s c).0 next_linked);
    }

    room_holds : RoomHoldsTheHistory w p q past (moment w s c)
    room_holds =
        let now = time_now w drawn number p q past s c h in
        record {
          time_stepped = now;
          time_after = next_linked.time_is;
          open_stepped = λ n. stepped_by_life n past s (moment w s c).stepped (time_then (history_of (moment w s c ∷ past))) now (open_or_shut w p q n past s (h.lives n)) (clock_of w drawn number p q s c h.none_due);
          open_after = next_linked.is_open;
          market_after = next_linked.position_is;
          source_after = next_linked.source_is;
        }

-- of every run
pub looks_tell_the_history : {P T F Q : Type 0} (w : World P T F Q) → Terms w → LooksTellTheHistoryInRuns w
looks_tell_the_history w terms number p q cs =
    throughout w terms.drawn_within number p q (LooksTellTheHistory w p q) (looks_tell w number p q terms.drawn_within) [] (new_room number p q) cs (holds_new w terms.drawn_within number p q)

pub rooms_hold_the_history : {P T F Q : Type 0} (w : World P T F Q) → Terms w → RoomsHoldTheHistory w
rooms_hold_the_history w terms number p q cs =
    throughout w terms.drawn_within number p q (RoomHoldsTheHistory w p q) (room_holds w number p q terms.drawn_within) [] (new_room number p q) cs (holds_new w terms.drawn_within number p q)
