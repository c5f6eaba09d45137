-- What calls do to a room, but for those that open or collect an auction, as moves: a relation between rooms that each move
-- keeps holds of all that they come to.
use Rattle.std.proofs.Common.{◌≡◌, ℕ, Bool, true, false, cond, Some, None, Option, sym, refl, ◌∙◌, subst}
use Rattle.market.specs.declared.quote.Quote.{Quote}
use Rattle.market.specs.declared.range.TurnedQuote.{TurnedQuote}
use Rattle.market.specs.Range.{turned_quote}
use Rattle.room.specs.State.{OpenValues, RoomState, at_time, at_position, with_halted, with_current, after_end}
use Rattle.room.specs.Ticks.{tick_cause, after_tick_cause, after_shown, at_floor, floor_now}
use Rattle.room.specs.World.{World}
use Rattle.session.specs.History.{plain_below}
use Rattle.session.specs.Runs.{Moment}
use Rattle.session.proofs.Ending.Lives.{Stepped, kept, expired}
use Rattle.session.proofs.Ending.Shapes.{Did, idle, opened, stored, ticks, halts, collected, OpenedHere, StoredHere, CollectedHere}
use Rattle.std.specs.Str.{byte}

-- the same auction, with other responses or at another floor
pub record SameAuction (a b : OpenValues) : Type 0 where
  pub same_number : b.number ≡ a.number
  pub same_deadline : b.deadline ≡ a.deadline

module _ {P Q : Type 0} (R : RoomState P Q → RoomState P Q → Type 0) where
  -- the open auction ends, or goes on
  pub record OpenMoves : Type 0 where
    pub stays : (s : RoomState P Q) → R s s
    pub both : (s u v : RoomState P Q) → R s u → R u v → R s v
    pub ends : (c : ℕ) (s : RoomState P Q) → R s (after_end c s)
    pub goes_on : (s : RoomState P Q) (a b : OpenValues) → s.current ≡ Some a → SameAuction a b → R s (with_current b s)

  -- and the room is halted or resumed, or its market moves
  pub record CallMoves : Type 0 where
    pub of_open : OpenMoves
    pub halted_so : (b : Bool) (s : RoomState P Q) → R s (with_halted b s)
    pub moved : (p : P) (s : RoomState P Q) → R s (at_position p s)

  module _ (moves : OpenMoves) where
    pub responded_moves : (l : Bool) (s : RoomState P Q) (a b : OpenValues) → s.current ≡ Some a → SameAuction a b → R s (cond l (after_end (byte "E") (with_current b s)) (with_current b s))
    responded_moves true s a b e k = moves.both s (with_current b s) (after_end (byte "E") (with_current b s)) (moves.goes_on s a b e k) (moves.ends (byte "E") (with_current b s))
    responded_moves false s a b e k = moves.goes_on s a b e k

    ticked_for_moves : (c : Option ℕ) (q : TurnedQuote) (s : RoomState P Q) (a : OpenValues) → s.current ≡ Some a → R s (after_tick_cause c q s a)
    ticked_for_moves (Some c) q s a e = moves.ends c s
    ticked_for_moves None q s a e = moves.goes_on s a (at_floor (floor_now q.floor a.values.floor) a) e (record { same_number = refl; same_deadline = refl })

    pub ticked_moves : (o : Option OpenValues) (q : Quote) (s : RoomState P Q) → s.current ≡ o → R s (after_shown o q s)
    ticked_moves None q s e = moves.stays s
    ticked_moves (Some a) q s e = let f = turned_quote a.values.order.side q in ticked_for_moves (tick_cause a.values f) f s a e

    -- the clock step
    pub stepped_moves : ((t : ℕ) (s : RoomState P Q) → R s (at_time t s)) → (s u : RoomState P Q) → Stepped s u → R s u
    stepped_moves timed s u (kept t e d) = subst (R s) (sym e) (timed t s)
    stepped_moves timed s u (expired t a c d e) = subst (R s) (sym e) (moves.both s (at_time t s) (after_end (byte "T") (at_time t s)) (timed t s) (moves.ends (byte "T") (at_time t s)))

-- what each of them keeps of a room
pub open_keeps : {P Q X : Type 0} (f : RoomState P Q → X) → ((c : ℕ) (s : RoomState P Q) → f (after_end c s) ≡ f s) → ((a : OpenValues) (s : RoomState P Q) → f (with_current a s) ≡ f s) → OpenMoves (λ s v. f v ≡ f s)
open_keeps f ends goes_on = record { stays = λ s. refl; both = λ s u v h k. k ∙ h; ends = ends; goes_on = λ s a b e k. goes_on b s }

module _ {P T F Q : Type 0} (w : World P T F Q) (m : Moment P T F Q) (R : RoomState P Q → RoomState P Q → Type 0) where
  pub stored_moves : OpenMoves R → (d : StoredHere w m) → R m.stepped m.after
  stored_moves moves d =
      subst (R m.stepped) (sym d.after_is)
      (responded_moves R moves (plain_below d.was.values.order.side d.was.values.floor m.call) m.stepped d.was d.now d.was_open (record { same_number = d.same.same_number; same_deadline = d.same.same_deadline }))

  -- a call's own business
  pub did_moves : CallMoves R → (OpenedHere w m → R m.stepped m.after) → (CollectedHere w m → R m.stepped m.after) → Did w m → R m.stepped m.after
  did_moves moves o k (idle b i e j) = subst (R m.stepped) (sym e) (moves.halted_so b m.stepped)
  did_moves moves o k (opened d) = o d
  did_moves moves o k (stored d) = stored_moves moves.of_open d
  did_moves moves o k (ticks t x j y f) =
      let next = w.market.next m.stepped.position x in
      let at = at_position next m.stepped in
      let now = after_shown m.stepped.current (w.market.shows next) at in
      subst (R m.stepped) (sym f) (moves.of_open.both m.stepped at now (moves.moved next m.stepped) (ticked_moves R moves.of_open m.stepped.current (w.market.shows next) at refl))
  did_moves moves o k (halts t j y f) =
      let over = after_end (byte "H") m.stepped in
      subst (R m.stepped) (sym f) (moves.of_open.both m.stepped over (with_halted true over) (moves.of_open.ends (byte "H") m.stepped) (moves.halted_so true over))
  did_moves moves o k (collected d) = k d
