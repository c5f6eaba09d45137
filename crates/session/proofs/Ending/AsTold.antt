-- What holds at every moment of a run makes the room and its history one: the room holds what the history tells.
use Rattle.std.proofs.Common.{◌≡◌, ◌⊎◌, inl, inr, ℕ, ◌≤◌, true, false, List, is_some, Some, None, Option, sym, refl, ap, ◌∙◌, subst}
use Rattle.interval.specs.Source.{WithinLimits}
use Rattle.room.specs.State.{OpenValues, RoomState, is_number, waiting_auction}
use Rattle.room.specs.World.{World}
use Rattle.session.specs.History.{openings, going_on, story_of}
use Rattle.session.specs.Moments.{is_open, history_of}
use Rattle.session.specs.Runs.{Moment}
use Rattle.session.proofs.Ending.Held.{Holds}
use Rattle.session.proofs.Ending.HowManyWait.{waiting_counted}
use Rattle.session.proofs.Ending.Laws.{waits_by}
use Rattle.session.proofs.Ending.Lives.{open_here, IsOpen, IsShut, IsWaiting, open_or_shut, waits_or_not}
use Rattle.session.proofs.Ending.Waiting.{Once, once_of_none}
use Rattle.session.proofs.Linked.{Linked, Current, none_open, one_open}
use Rattle.room.proofs.Tests.{true_false}

module _ {P T F Q : Type 0} (w : World P T F Q) (p : P) (q : Q) (n : ℕ) (past : List (Moment P T F Q)) (s : RoomState P Q) where
  -- an auction is open as long as its story goes on
  open_by : IsOpen w p q n past s ⊎ IsShut w p q n past s → is_open n s ≡ is_some (going_on (story_of w p q n (history_of past)))
  open_by (inl o) = open_here n s o.auction o.open_as ∙ sym (ap is_some o.goes_on)
  open_by (inr h) = h.shut ∙ sym (ap is_some h.goes_on)

  -- each auction waits once, and its number was given
  once_by : IsWaiting w p q n past s ⊎ (waiting_auction n s.waiting ≡ None) → Once n s.waiting
  once_by (inl h) = h.waits_as.once
  once_by (inr none) = once_of_none n s.waiting none

  numbers_by : IsWaiting w p q n past s ⊎ (waiting_auction n s.waiting ≡ None) → is_some (waiting_auction n s.waiting) ≡ true → (1 ≤ n) × (n ≤ s.opened)
  numbers_by (inl h) k = (h.over.from_one, h.counted)
  numbers_by (inr none) k = true_false (sym k ∙ ap is_some none)

  -- the open auction and the story that goes on
  no_auction : (o : Option OpenValues) → is_number n o ≡ false → is_number n o ≡ is_some o → o ≡ None
  no_auction None h k = refl
  no_auction (Some a) h k = true_false (sym k ∙ h)

  current_by : is_open n s ≡ is_some s.current → IsOpen w p q n past s ⊎ IsShut w p q n past s → Current s.current (going_on (story_of w p q n (history_of past)))
  current_by last (inl o) =
      subst (λ (v : Option OpenValues). Current v (going_on (story_of w p q n (history_of past)))) (sym o.open_as.current_is)
      (subst (Current (Some o.auction)) (sym o.goes_on) (one_open o.auction o.live.story o.live.matches))
  current_by last (inr h) =
      subst (λ (v : Option OpenValues). Current v (going_on (story_of w p q n (history_of past)))) (sym (no_auction s.current h.shut last)) (subst (Current None) (sym h.goes_on) none_open)

module _ {P T F Q : Type 0} (w : World P T F Q) (drawn : WithinLimits w.source) (number : ℕ) (p : P) (q : Q) where
  pub linked : (past : List (Moment P T F Q)) (s : RoomState P Q) → Holds w drawn number p q past s → Linked w number p q (history_of past) s
  linked past s h = record {
    number_is = h.number_is;
    time_is = h.time_is;
    halted_is = h.halted_is;
    position_is = h.position_is;
    source_is = h.source_is;
    opened_is = h.counted;
    none_due = h.none_due;
    current = subst (λ n. Current s.current (going_on (story_of w p q n (history_of past)))) h.counted (current_by w p q s.opened past s h.last (open_or_shut w p q s.opened past s (h.lives s.opened)));
    is_open = λ n. open_by w p q n past s (open_or_shut w p q n past s (h.lives n));
    waits = λ n. waits_by w drawn number p q n s past (h.lives n);
    waiting_is =
        waiting_counted w p q (openings (history_of past)) (history_of past) s.waiting (λ n. waits_by w drawn number p q n s past (h.lives n)) (λ n. once_by w p q n past s (waits_or_not w p q n past s (h.lives n)))
        (subst (λ n. (k : ℕ) → is_some (waiting_auction k s.waiting) ≡ true → (1 ≤ k) × (k ≤ n)) h.counted (λ k. numbers_by w p q k past s (waits_or_not w p q k past s (h.lives k))));
  }
