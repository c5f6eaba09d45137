-- What a call does to an auction that is not open when it comes: unless the call opens or collects that very auction, it
-- stays closed, and waits or not as before.
use Rattle.std.proofs.Common.{◌≡◌, ◌⊎◌, inl, inr, ℕ, ◌+◌, ◌≤◌, Bool, true, false, ◌&&◌, eqb, List, Some, None, sym, refl, ap, ◌∙◌, subst, arith}
use Rattle.std.proofs.lemmas.Bool.Decides.{nat_tests as tests}
use Rattle.room.specs.State.{EndedValues, RoomState, at_time, at_position, with_halted, with_current, after_end, is_number, waiting_auction, without_number}
use Rattle.room.specs.World.{World}
use Rattle.session.specs.declared.call.Call.{Call}
use Rattle.session.specs.History.{opens, collects, opened_number, is_collected, is_same, auction_in}
use Rattle.session.specs.Moments.{is_open, exchange_of}
use Rattle.session.specs.Runs.{Answer, Opened, Moment}
use Rattle.session.proofs.Ending.Lives.{Stepped}
use Rattle.session.proofs.Ending.Moves.{OpenMoves, CallMoves, stepped_moves, did_moves}
use Rattle.session.proofs.Ending.Shapes.{Did, OpenedHere, CollectedHere, opened_or_not, collected_or_not}
use Rattle.room.proofs.Tests.{none_some}
use Rattle.session.proofs.Ending.Waiting.{Once, closed_other, once_closed, numbered_without_other, once_without_other}
use Rattle.std.specs.Str.{byte}

module _ {P Q : Type 0} where
  pub record Elsewhere (n : ℕ) (s v : RoomState P Q) : Type 0 where
    pub still_closed : is_open n v ≡ false
    pub same_waiting : waiting_auction n v.waiting ≡ waiting_auction n s.waiting
    pub still_once : Once n s.waiting → Once n v.waiting
    pub opened_up : s.opened ≤ v.opened

  module _ (n : ℕ) where
    pub both_elsewhere : (s u v : RoomState P Q) → Elsewhere n s u → Elsewhere n u v → Elsewhere n s v
    both_elsewhere s u v a b = record {
      still_closed = b.still_closed;
      same_waiting = b.same_waiting ∙ a.same_waiting;
      still_once = λ o. b.still_once (a.still_once o);
      opened_up = omega (arith, a.opened_up, b.opened_up);
    }

    -- the open auction, of another number, ends
    ended_elsewhere : (c : ℕ) (s : RoomState P Q) → is_open n s ≡ false → Elsewhere n s (after_end c s)
    ended_elsewhere c s h = record {
      still_closed = refl;
      same_waiting = closed_other c n s.current s.waiting h;
      still_once = once_closed c n s.current s.waiting h;
      opened_up = omega arith;
    }

    -- the auctions are as they were
    same_elsewhere : (s v : RoomState P Q) → is_open n v ≡ false → v.waiting ≡ s.waiting → v.opened ≡ s.opened → Elsewhere n s v
    same_elsewhere s v h e k = record {
      still_closed = h;
      same_waiting = ap (waiting_auction n) e;
      still_once = λ o. ap (λ es. waiting_auction n (without_number n es)) e ∙ o;
      opened_up = omega arith;
    }

    abbrev KeepsElsewhere : RoomState P Q → RoomState P Q → Type 0
    KeepsElsewhere s v = is_open n s ≡ false → Elsewhere n s v

    open_moves : OpenMoves KeepsElsewhere
    open_moves = record {
      stays = λ s h. same_elsewhere s s h refl refl;
      both = λ s u v f g h. both_elsewhere s u v (f h) (g (f h).still_closed);
      ends = λ c s h. ended_elsewhere c s h;
      goes_on = λ s a b e k h. same_elsewhere s (with_current b s) (ap (λ i. eqb i n) k.same_number ∙ sym (ap (is_number n) e) ∙ h) refl refl;
    }

    call_moves : CallMoves KeepsElsewhere
    call_moves = record {
      of_open = open_moves;
      halted_so = λ b s h. same_elsewhere s (with_halted b s) h refl refl;
      moved = λ p s h. same_elsewhere s (at_position p s) h refl refl;
    }

    pub stepped_elsewhere : (s u : RoomState P Q) → Stepped s u → is_open n s ≡ false → Elsewhere n s u
    stepped_elsewhere = stepped_moves KeepsElsewhere open_moves (λ t s h. same_elsewhere s (at_time t s) h refl refl)

module _ {P T F Q : Type 0} (w : World P T F Q) (n : ℕ) (m : Moment P T F Q) where
  -- a call that does not open or collect this auction, after its clock step
  opened_elsewhere : OpenedHere w m → opens n (exchange_of m) ≡ false → is_open n m.stepped ≡ false → Elsewhere n m.stepped m.after
  opened_elsewhere d o h =
      let other : eqb (m.stepped.opened + 1) n ≡ false = sym (ap (λ (y : Answer F). is_same n (opened_number y)) d.answer_is) ∙ o in
      subst (Elsewhere n m.stepped) (sym d.after_is) (record {
        still_closed = other;
        same_waiting = closed_other (byte "A") n m.stepped.current m.stepped.waiting h;
        still_once = once_closed (byte "A") n m.stepped.current m.stepped.waiting h;
        opened_up = omega arith;
      })

  collected_elsewhere : CollectedHere w m → collects n (exchange_of m) ≡ false → is_open n m.stepped ≡ false → Elsewhere n m.stepped m.after
  collected_elsewhere d c h =
      let other : eqb d.claim.auction n ≡ false = sym (ap (λ (y : Answer F). is_collected y && is_same n (auction_in m.call)) d.answer_is ∙ ap (λ (y : Call T). is_same n (auction_in y)) d.call_is) ∙ c in
      subst (Elsewhere n m.stepped) (sym d.after_is) (record {
        still_closed = h;
        same_waiting = numbered_without_other d.claim.auction n m.stepped.waiting other;
        still_once = once_without_other d.claim.auction n m.stepped.waiting other;
        opened_up = omega arith;
      })

  pub did_elsewhere : Did w m → is_open n m.stepped ≡ false → opens n (exchange_of m) ≡ false → collects n (exchange_of m) ≡ false → Elsewhere n m.stepped m.after
  did_elsewhere did h o c = did_moves w m (KeepsElsewhere n) (call_moves n) (λ d. opened_elsewhere d o) (λ d. collected_elsewhere d c) did h

  -- an auction that was opened before is not opened again
  number_differs : (a : Answer F) (k : ℕ) → a ≡ Opened (record { room = m.stepped.number; auction = k + 1 }) → n ≤ k → is_same n (opened_number a) ≡ false
  number_differs a k e h = ap (λ (y : Answer F). is_same n (opened_number y)) e ∙ (let less = h in grind (arith, tests))

  opened_before : OpenedHere w m ⊎ (opened_number m.answer ≡ None) → n ≤ m.stepped.opened → opens n (exchange_of m) ≡ false
  opened_before (inl d) h = number_differs m.answer m.stepped.opened d.answer_is h
  opened_before (inr none) h = ap (is_same n) none

  pub not_opened : Did w m → n ≤ m.stepped.opened → opens n (exchange_of m) ≡ false
  not_opened did h = opened_before (opened_or_not w m did) h

  -- an auction that does not wait is not collected
  claim_differs : (es : List EndedValues) (k : ℕ) (x : EndedValues) (b : Bool) → eqb k n ≡ b → waiting_auction k es ≡ Some x → waiting_auction n es ≡ None → b ≡ false
  claim_differs es k x false e f g = refl
  claim_differs es k x true e f g =
      let same : k ≡ n = grind (arith, tests) in
      none_some x (sym g ∙ sym (ap (λ i. waiting_auction i es) same) ∙ f)

  none_waits : CollectedHere w m ⊎ (is_collected m.answer ≡ false) → waiting_auction n m.stepped.waiting ≡ None → collects n (exchange_of m) ≡ false
  none_waits (inl d) h =
      ap (λ (y : Answer F). is_collected y && is_same n (auction_in m.call)) d.answer_is ∙ ap (λ (y : Call T). is_same n (auction_in y)) d.call_is
      ∙ claim_differs m.stepped.waiting d.claim.auction d.auction (eqb d.claim.auction n) refl d.waited h
  none_waits (inr none) h = ap (λ (b : Bool). b && is_same n (auction_in m.call)) none

  pub not_collected : Did w m → waiting_auction n m.stepped.waiting ≡ None → collects n (exchange_of m) ≡ false
  not_collected did h = none_waits (collected_or_not w m did) h
