-- What each call does to the room's positions, to its time, to its numbers and to how many auctions it holds, and that no
-- auction that is open afterwards is due.
use Rattle.std.proofs.Common.{◌≡◌, ◌⊎◌, inl, inr, ℕ, ◌+◌, ◌≤◌, Bool, true, false, cond, ◌&&◌, eqb, leb, List, length, is_some, Some, None, Option, sym, refl, ap, ◌∙◌, subst, arith}
use Rattle.std.proofs.lemmas.Bool.{eq-eqb}
use Rattle.std.proofs.lemmas.Bool.Decides.{nat_tests as tests}
use Rattle.interval.specs.Source.{WithinLimits}
use Rattle.room.specs.Clock.{due}
use Rattle.room.specs.State.{OpenValues, EndedValues, RoomState, at_position, with_current, waiting_after_end, is_number}
use Rattle.room.specs.World.{World}
use Rattle.session.specs.declared.call.Call.{Call}
use Rattle.session.specs.Ending.{auction_count}
use Rattle.session.specs.History.{opened_number, is_accepted, is_collected, halted_by, tick_in, position_then}
use Rattle.session.specs.Runs.{Answer, Moment}
use Rattle.session.proofs.Ending.Lives.{Stepped}
use Rattle.session.proofs.Ending.Moves.{CallMoves, open_keeps, ticked_moves, stored_moves, stepped_moves, did_moves}
use Rattle.session.proofs.Ending.Shapes.{Did, idle, opened, stored, ticks, halts, collected, OpenedHere, CollectedHere, opened_or_not, collected_or_not}
use Rattle.room.proofs.Tests.{none_some, true_false}
use Rattle.session.proofs.Ending.Waiting.{closed_length, without_length}
use Rattle.std.specs.Str.{byte}

-- an auction that ends is held as before, among those that wait
closed_held : (c : ℕ) (o : Option OpenValues) (es : List EndedValues) → length (waiting_after_end c o es) + 0 ≡ length es + cond (is_some o) 1 0
closed_held c None es = refl
closed_held c (Some a) es = let more = closed_length c a es in omega arith

module _ {P Q : Type 0} where
  -- a room that holds as many auctions as another
  pub record HoldsAsMany (s v : RoomState P Q) : Type 0 where
    pub as_many : auction_count v ≡ auction_count s
    pub same_opened : v.opened ≡ s.opened
    pub same_source : v.source ≡ s.source

  same_open : (s : RoomState P Q) (a b : OpenValues) → s.current ≡ Some a → auction_count (with_current b s) ≡ auction_count s
  same_open s a b e = ap (λ (o : Option OpenValues). length s.waiting + cond (is_some o) 1 0) (sym e)

  counting_moves : CallMoves HoldsAsMany
  counting_moves = record {
    of_open = record {
      stays = λ s. record { as_many = refl; same_opened = refl; same_source = refl };
      both = λ s u v h k. record { as_many = k.as_many ∙ h.as_many; same_opened = k.same_opened ∙ h.same_opened; same_source = k.same_source ∙ h.same_source };
      ends = λ c s. record { as_many = closed_held c s.current s.waiting; same_opened = refl; same_source = refl };
      goes_on = λ s a b e k. record { as_many = same_open s a b e; same_opened = refl; same_source = refl };
    };
    halted_so = λ b s. record { as_many = refl; same_opened = refl; same_source = refl };
    moved = λ p s. record { as_many = refl; same_opened = refl; same_source = refl };
  }

  pub stepped_held : (s u : RoomState P Q) → Stepped s u → auction_count u ≡ auction_count s
  stepped_held s u clock = (stepped_moves HoldsAsMany counting_moves.of_open (λ t s. record { as_many = refl; same_opened = refl; same_source = refl }) s u clock).as_many

  -- no auction that is open becomes due
  abbrev KeepsUndue : RoomState P Q → RoomState P Q → Type 0
  KeepsUndue s v = due s.time s.current ≡ false → due v.time v.current ≡ false

  undue_moves : CallMoves KeepsUndue
  undue_moves = record {
    of_open = record {
      stays = λ s h. h;
      both = λ s u v f g h. g (f h);
      ends = λ c s h. refl;
      goes_on = λ s a b e k h. ap (λ d. leb d s.time) k.same_deadline ∙ sym (ap (due s.time) e) ∙ h;
    };
    halted_so = λ b s h. h;
    moved = λ p s h. h;
  }

  -- the open auction is the last that was opened
  abbrev pub IsTheLast : RoomState P Q → Type 0
  IsTheLast s = is_number s.opened s.current ≡ is_some s.current

  abbrev KeepsTheLast : RoomState P Q → RoomState P Q → Type 0
  KeepsTheLast s v = IsTheLast s → IsTheLast v

  last_moves : CallMoves KeepsTheLast
  last_moves = record {
    of_open = record {
      stays = λ s h. h;
      both = λ s u v f g h. g (f h);
      ends = λ c s h. refl;
      goes_on = λ s a b e k h. ap (λ n. eqb n s.opened) k.same_number ∙ sym (ap (is_number s.opened) e) ∙ h ∙ ap is_some e;
    };
    halted_so = λ b s h. h;
    moved = λ p s h. h;
  }

  pub stepped_last : (s u : RoomState P Q) → Stepped s u → IsTheLast s → IsTheLast u
  stepped_last = stepped_moves KeepsTheLast last_moves.of_open (λ t s h. h)

module _ {P T F Q : Type 0} (w : World P T F Q) (m : Moment P T F Q) where
  -- what the answer tells, and what the room then holds: as many auctions,
  pub record AsMany : Type 0 where
    pub opens_none : opened_number m.answer ≡ None
    pub collects_none : is_collected m.answer ≡ false
    pub holds : HoldsAsMany m.stepped m.after

  -- one more, which was opened,
  pub record OneMore : Type 0 where
    pub opens : opened_number m.answer ≡ Some (m.stepped.opened + 1)
    pub collects_none : is_collected m.answer ≡ false
    pub opened_up : m.after.opened ≡ m.stepped.opened + 1
    pub holds_more : auction_count m.after ≡ auction_count m.stepped + 1
    pub drawn : m.after.source ≡ w.source.next m.stepped.source

  -- or one fewer, which was collected.
  pub record OneFewer : Type 0 where
    pub opens_none : opened_number m.answer ≡ None
    pub collects : is_collected m.answer ≡ true
    pub same_opened : m.after.opened ≡ m.stepped.opened
    pub holds_fewer : auction_count m.after + 1 ≡ auction_count m.stepped
    pub same_source : m.after.source ≡ m.stepped.source

  pub data Counted : Type 0 where
    same : AsMany → Counted
    more : OneMore → Counted
    fewer : OneFewer → Counted

  pub opened_held : (o : Option OpenValues) (es : List EndedValues) → length (waiting_after_end (byte "A") o es) + 1 ≡ (length es + cond (is_some o) 1 0) + 1
  opened_held None es = omega arith
  opened_held (Some a) es = let more = closed_length (byte "A") a es in omega arith

  not_due_yet : (t d : ℕ) → 100 ≤ d → leb (t + d) t ≡ false
  not_due_yet t d h = grind (arith, tests)

  pub undue_by : WithinLimits w.source → Did w m → due m.stepped.time m.stepped.current ≡ false → due m.after.time m.after.current ≡ false
  undue_by drawn did =
      did_moves w m KeepsUndue undue_moves
      (λ d h. ap (λ (v : RoomState P Q). due v.time v.current) d.after_is ∙ not_due_yet m.stepped.time (w.source.draws m.stepped.source) (drawn m.stepped.source).0)
      (λ d h. ap (λ (v : RoomState P Q). due v.time v.current) d.after_is ∙ h) did

  opened_more : OpenedHere w m → OneMore
  opened_more d = record {
    opens = ap (λ (k : Answer F). opened_number k) d.answer_is;
    collects_none = ap (λ (k : Answer F). is_collected k) d.answer_is;
    opened_up = ap (λ (v : RoomState P Q). v.opened) d.after_is;
    holds_more = ap (λ (v : RoomState P Q). auction_count v) d.after_is ∙ opened_held m.stepped.current m.stepped.waiting;
    drawn = ap (λ (v : RoomState P Q). v.source) d.after_is;
  }

  collected_fewer : CollectedHere w m → OneFewer
  collected_fewer d =
      let less = without_length d.claim.auction m.stepped.waiting d.auction d.waited in
      record {
        opens_none = ap (λ (v : Answer F). opened_number v) d.answer_is;
        collects = ap (λ (v : Answer F). is_collected v) d.answer_is;
        same_opened = ap (λ (v : RoomState P Q). v.opened) d.after_is;
        holds_fewer = ap (λ (v : RoomState P Q). auction_count v + 1) d.after_is ∙ omega arith;
        same_source = ap (λ (v : RoomState P Q). v.source) d.after_is;
      }

  -- by whether the answer tells of an opening or a collecting
  counted_as : (did : Did w m) → OpenedHere w m ⊎ (opened_number m.answer ≡ None) → CollectedHere w m ⊎ (is_collected m.answer ≡ false) → Counted
  counted_as did (inl d) k = more (opened_more d)
  counted_as did (inr none) (inl d) = fewer (collected_fewer d)
  counted_as did (inr none) (inr kept) = same (record {
    opens_none = none;
    collects_none = kept;
    holds =
        did_moves w m HoldsAsMany counting_moves (λ d. none_some _ (sym none ∙ ap (λ (k : Answer F). opened_number k) d.answer_is))
        (λ d. true_false (sym (ap (λ (k : Answer F). is_collected k) d.answer_is) ∙ kept)) did;
  })

  pub counted_by : Did w m → Counted
  counted_by did = counted_as did (opened_or_not w m did) (collected_or_not w m did)

  -- the market's position moves by accepted ticks and by nothing else
  position_quiet : (b : Bool) (o : Option T) (x : P) → (b && is_some o) ≡ false → position_then w.market.next b o x ≡ x
  position_quiet b None x h = refl
  position_quiet true (Some t) x h = true_false h
  position_quiet false (Some t) x h = refl

  unmoved : m.after.position ≡ m.stepped.position → (is_accepted m.answer && is_some (tick_in m.call)) ≡ false
      → m.after.position ≡ position_then w.market.next (is_accepted m.answer) (tick_in m.call) m.stepped.position
  unmoved e h = e ∙ sym (position_quiet (is_accepted m.answer) (tick_in m.call) m.stepped.position h)

  pub position_by : Did w m → m.after.position ≡ position_then w.market.next (is_accepted m.answer) (tick_in m.call) m.stepped.position
  position_by (idle b i e k) = unmoved (ap (λ (v : RoomState P Q). v.position) e) k.ticks_none
  position_by (opened d) = unmoved (ap (λ (v : RoomState P Q). v.position) d.after_is) (ap (λ (v : Answer F). is_accepted v && is_some (tick_in m.call)) d.answer_is)
  position_by (stored d) =
      unmoved (stored_moves w m (λ s v. v.position ≡ s.position) (open_keeps (λ (v : RoomState P Q). v.position) (λ c s. refl) (λ a s. refl)) d)
      (ap (λ (v : Answer F). is_accepted v && is_some (tick_in m.call)) d.answer_is)
  position_by (collected d) = unmoved (ap (λ (v : RoomState P Q). v.position) d.after_is) (ap (λ (v : Answer F). is_accepted v && is_some (tick_in m.call)) d.answer_is)
  position_by (ticks t x j y f) =
      ap (λ (v : RoomState P Q). v.position) f
      ∙ ticked_moves (λ s v. v.position ≡ s.position) (open_keeps (λ (v : RoomState P Q). v.position) (λ c s. refl) (λ a s. refl)) m.stepped.current (w.market.shows (w.market.next m.stepped.position x)) (at_position (w.market.next m.stepped.position x) m.stepped) refl
      ∙ sym (ap (λ (v : Answer F). position_then w.market.next (is_accepted v) (tick_in m.call) m.stepped.position) y ∙ ap (λ (v : Call T). position_then w.market.next true (tick_in v) m.stepped.position) j)
  position_by (halts t j y f) =
      ap (λ (v : RoomState P Q). v.position) f ∙ sym (ap (λ (v : Call T). position_then w.market.next (is_accepted m.answer) (tick_in v) m.stepped.position) j)

  -- the call's own business leaves time and number,
  pub time_by : Did w m → m.after.time ≡ m.stepped.time
  time_by =
      did_moves w m (λ s v. v.time ≡ s.time) (record { of_open = open_keeps (λ (v : RoomState P Q). v.time) (λ c s. refl) (λ a s. refl); halted_so = λ b s. refl; moved = λ p s. refl })
      (λ d. ap (λ (v : RoomState P Q). v.time) d.after_is) (λ d. ap (λ (v : RoomState P Q). v.time) d.after_is)

  pub number_by : Did w m → m.after.number ≡ m.stepped.number
  number_by =
      did_moves w m (λ s v. v.number ≡ s.number) (record { of_open = open_keeps (λ (v : RoomState P Q). v.number) (λ c s. refl) (λ a s. refl); halted_so = λ b s. refl; moved = λ p s. refl })
      (λ d. ap (λ (v : RoomState P Q). v.number) d.after_is) (λ d. ap (λ (v : RoomState P Q). v.number) d.after_is)

  -- only an accepted halt or resume says whether the room is halted,
  halted_so : m.after.halted ≡ m.stepped.halted → is_accepted m.answer ≡ false → m.after.halted ≡ cond (is_accepted m.answer) (halted_by m.call m.stepped.halted) m.stepped.halted
  halted_so e h = e ∙ sym (ap (λ (b : Bool). cond b (halted_by m.call m.stepped.halted) m.stepped.halted) h)

  pub halted_by_call : Did w m → m.after.halted ≡ cond (is_accepted m.answer) (halted_by m.call m.stepped.halted) m.stepped.halted
  halted_by_call (idle b i e k) = ap (λ (v : RoomState P Q). v.halted) e ∙ i
  halted_by_call (opened d) = halted_so (ap (λ (v : RoomState P Q). v.halted) d.after_is) (ap (λ (v : Answer F). is_accepted v) d.answer_is)
  halted_by_call (stored d) =
      halted_so (stored_moves w m (λ s v. v.halted ≡ s.halted) (open_keeps (λ (v : RoomState P Q). v.halted) (λ c s. refl) (λ a s. refl)) d)
      (ap (λ (v : Answer F). is_accepted v) d.answer_is)
  halted_by_call (ticks t x j y e) =
      ap (λ (v : RoomState P Q). v.halted) e
      ∙ ticked_moves (λ s v. v.halted ≡ s.halted) (open_keeps (λ (v : RoomState P Q). v.halted) (λ c s. refl) (λ a s. refl)) m.stepped.current (w.market.shows (w.market.next m.stepped.position x)) (at_position (w.market.next m.stepped.position x) m.stepped) refl
      ∙ sym (ap (λ (v : Answer F). cond (is_accepted v) (halted_by m.call m.stepped.halted) m.stepped.halted) y ∙ ap (λ (v : Call T). halted_by v m.stepped.halted) j)
  halted_by_call (halts t j y e) =
      ap (λ (v : RoomState P Q). v.halted) e ∙ sym (ap (λ (v : Answer F). cond (is_accepted v) (halted_by m.call m.stepped.halted) m.stepped.halted) y ∙ ap (λ (v : Call T). halted_by v m.stepped.halted) j)
  halted_by_call (collected d) = halted_so (ap (λ (v : RoomState P Q). v.halted) d.after_is) (ap (λ (v : Answer F). is_accepted v) d.answer_is)

  -- and the open auction is still the last that was opened.
  pub last_by : Did w m → IsTheLast m.stepped → IsTheLast m.after
  last_by =
      did_moves w m KeepsTheLast last_moves (λ d h. subst (λ (z : RoomState P Q). IsTheLast z) (sym d.after_is) (eq-eqb (m.stepped.opened + 1) (m.stepped.opened + 1) refl))
      (λ d h. subst (λ (z : RoomState P Q). IsTheLast z) (sym d.after_is) h)
