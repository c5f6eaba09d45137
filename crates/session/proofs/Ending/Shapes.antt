-- What a call does to a room, in few shapes: it leaves the auctions alone, opens one, stores, changes or withdraws a
-- response, takes a tick, halts, or collects. Each with what the answer tells. And what the clock step before it does.
use Rattle.std.proofs.Common.{◌≡◌, ◌≢◌, ◌⊎◌, inl, inr, ℕ, ◌+◌, ◌-◌, ◌<◌, ◌≤◌, Bool, true, false, cond, not, ◌&&◌, eqb, leb, List, [], ◌∷◌, ◌++◌, map, length, length-set, ℤ, is_some, Some, None, Ok, Err, Option, Result, sym, refl, ap, ◌∙◌, subst, arith}
use Rattle.std.proofs.lemmas.Bool.{and_from}
use lib.Signed.{lt_z}
use Rattle.std.proofs.lemmas.Bool.Decides.{nat_tests}
use Rattle.std.proofs.lemmas.Grind.{get_or-set_at}
use Rattle.std.proofs.lemmas.List.{map-append, get_or-set_other}
use Rattle.market.specs.declared.side.Side.{Side}
use Rattle.market.specs.Range.{RangePrices, permitted_range}
use Rattle.market.specs.Side.{turned_price}
use Rattle.allocation.specs.declared.order.PairedOrder.{PairedOrder}
use Rattle.allocation.specs.declared.response.Response.{Response}
use Rattle.allocation.specs.Auction.{stood_responses}
use Rattle.allocation.specs.AuctionInvariant.{from_to, response_ok}
use Rattle.allocation.specs.FillLaws.{stood_response}
use Rattle.allocation.specs.Table.{is_of, with_terms, own_changed, without_own, own_response}
use Rattle.room.specs.declared.answers.ClaimNumbers.{ClaimNumbers}
use Rattle.room.specs.declared.answers.StoredTerms.{StoredTerms}
use Rattle.room.specs.declared.requests.ChangeRequest.{ChangeRequest}
use Rattle.room.specs.declared.requests.OpeningRequest.{OpeningRequest}
use Rattle.room.specs.declared.requests.ResponseRequest.{ResponseRequest}
use Rattle.room.specs.declared.requests.WithdrawRequest.{WithdrawRequest}
use Rattle.room.specs.Checks.{open_checks, respond_checks, change_checks, withdraw_checks, time_checks, collect_checks}
use Rattle.room.specs.Clock.{after_clock, timed_call}
use Rattle.room.specs.Collecting.{collectable, fill_rows, waiting_now, written_rows}
use Rattle.room.specs.Openings.{opening, opening_range, after_opening, guarantee_refusal, room_refusal, any_waits}
use Rattle.room.specs.Refusals.{RefusalTold, refuse, unless, outcome}
use Rattle.room.specs.Responses.{side_checked, above_checked, in_use_checked, used_checked, responding_to, responding, after_response, with_response, as_stored, stored_price, stored_size, terms_told, turned_in, with_counted, standing_now, plain_checked, changing, changing_in, with_change, withdrawing, withdrawing_from, with_withdrawal}
use Rattle.room.specs.State.{OpenValues, EndedValues, RoomState, at_position, with_halted, with_current, with_waiting, after_end, is_number, waiting_auction, without_number, used_by, one_more}
use Rattle.room.specs.Ticks.{after_shown, ticking_by, ticking}
use Rattle.room.specs.World.{World}
use Rattle.session.specs.declared.call.Call.{Call}
use Rattle.session.specs.declared.call.Call.TheVariants.{Open, Respond, Change, Withdraw, Tick, Halt, Resume, Clock, Look, Collect}
use Rattle.session.specs.History.{opened_number, told_terms, is_accepted, is_collected, tick_in, is_halt, halted_by, plain_below, stood_after, storing_after, changed_then, withdrawn_then}
use Rattle.session.specs.Reasons.{stored_by}
use Rattle.session.specs.Runs.{Answer, Opened, Stored, Accepted, Looked, Collected, Refused, Moment, answer_of_result, after_clock_step, moment}
use Rattle.session.proofs.Choices.{cond_through}
use Rattle.session.proofs.Ending.Apart.{Apart, apart_response, apart_change, apart_withdrawal}
use Rattle.session.proofs.Ending.Lives.{plain_is, unstepped}
use Rattle.room.proofs.InsideLimits.{TermsInside, opening_sized, response_inside, change_inside}
use Rattle.allocation.proofs.AuctionKept.{each_push}
use Rattle.room.proofs.Sound.{Sound, each_changed, each_without, stood_sound, stored_may_stand}
use Rattle.room.proofs.Tests.{true_false, refuse_none, unless_ok, and_then_ok, ok_err}
use Rattle.std.specs.Str.{byte}

-- an answer that tells of no auction
pub record Quiet {T F : Type 0} (c : Call T) (a : Answer F) : Type 0 where
  pub opens_none : opened_number a ≡ None
  pub stores_none : told_terms a ≡ None
  pub collects_none : is_collected a ≡ false
  pub ticks_none : (is_accepted a && is_some (tick_in c)) ≡ false
  pub halts_none : (is_accepted a && is_halt c) ≡ false

-- the same auction but for its responses
pub record SameButResponses (a b : OpenValues) : Type 0 where
  pub same_number : b.number ≡ a.number
  pub same_deadline : b.deadline ≡ a.deadline
  pub same_order : b.values.order ≡ a.values.order
  pub same_floor : b.values.floor ≡ a.values.floor
  pub same_initiating : b.values.initiating ≡ a.values.initiating
  pub as_many_counts : length b.used ≡ length a.used

-- it counts the responses and changes of these members
pub record CountsThese (ms : List ℕ) (a : OpenValues) : Type 0 where
  pub all : a.arrivals ≡ length ms
  pub of_each : (member : ℕ) → 1 ≤ member → member ≤ 16 → used_by member a.used ≡ stored_by member ms

module _ {P T F Q : Type 0} (w : World P T F Q) where
  -- an auction is opened
  pub record OpenedHere (m : Moment P T F Q) : Type 0 where
    pub request : OpeningRequest
    pub range : RangePrices
    pub call_is : m.call ≡ Open request
    pub answer_is : m.answer ≡ Opened (record { room = m.stepped.number; auction = m.stepped.opened + 1 })
    pub after_is : m.after ≡ after_opening w m.stepped request.order range
    pub permitted_then : permitted_range request.order.side request.order.limit (w.market.shows m.stepped.position) ≡ Ok range
    pub guaranteed : lt_z range.initiating (turned_price request.order.side request.order.guarantee.price) ≡ false
    pub sized : leb 1 request.order.size ≡ true
    pub none_waited : length m.stepped.waiting ≡ 0

  -- an auction is collected
  pub record CollectedHere (m : Moment P T F Q) : Type 0 where
    pub claim : ClaimNumbers
    pub rows : ℕ
    pub auction : EndedValues
    pub call_is : m.call ≡ Collect claim rows
    pub no_clock_step : m.stepped ≡ m.before
    pub answer_is : m.answer ≡ Collected (record { count = length (fill_rows w auction); cause = auction.cause }) (fill_rows w auction)
    pub after_is : m.after ≡ with_waiting (without_number claim.auction m.stepped.waiting) m.stepped
    pub waited : waiting_auction claim.auction m.stepped.waiting ≡ Some auction

  -- a response is stored, changed or withdrawn; a plain one priced below the floor then ends the auction
  pub record StoredHere (m : Moment P T F Q) : Type 0 where
    pub was : OpenValues
    pub now : OpenValues
    pub terms : StoredTerms
    pub was_open : m.stepped.current ≡ Some was
    pub answer_is : m.answer ≡ Stored terms
    pub same : SameButResponses was now
    pub stood_is : stood_responses now.values ≡ stood_after m.call terms (was.arrivals + 1) (stood_responses was.values)
    pub sound : Sound was.values → Sound now.values
    pub apart : Apart was → Apart now
    pub counts : length was.used ≡ 16 → (ms : List ℕ) → CountsThese ms was → CountsThese (storing_after m.call ms) now
    pub after_is : m.after ≡ cond (plain_below was.values.order.side was.values.floor m.call) (after_end (byte "E") (with_current now m.stepped)) (with_current now m.stepped)

  pub data Did (m : Moment P T F Q) : Type 0 where
    -- nothing happens to an auction
    idle : (b : Bool) → b ≡ cond (is_accepted m.answer) (halted_by m.call m.stepped.halted) m.stepped.halted → m.after ≡ with_halted b m.stepped → Quiet m.call m.answer → Did m
    opened : OpenedHere m → Did m
    stored : StoredHere m → Did m
    -- the market takes a tick
    ticks : (time : ℕ) (x : T) → m.call ≡ Tick time x → m.answer ≡ Accepted
        → m.after ≡ after_shown m.stepped.current (w.market.shows (w.market.next m.stepped.position x)) (at_position (w.market.next m.stepped.position x) m.stepped) → Did m
    -- the room is halted
    halts : (time : ℕ) → m.call ≡ Halt time → m.answer ≡ Accepted → m.after ≡ with_halted true (after_end (byte "H") m.stepped) → Did m
    collected : CollectedHere m → Did m

  -- an auction is opened, or the answer tells of none
  pub opened_or_not : (m : Moment P T F Q) → Did m → OpenedHere m ⊎ (opened_number m.answer ≡ None)
  opened_or_not m (idle b i e k) = inr k.opens_none
  opened_or_not m (opened d) = inl d
  opened_or_not m (stored d) = inr (ap (λ (v : Answer F). opened_number v) d.answer_is)
  opened_or_not m (ticks t x j y f) = inr (ap (λ (v : Answer F). opened_number v) y)
  opened_or_not m (halts t j y f) = inr (ap (λ (v : Answer F). opened_number v) y)
  opened_or_not m (collected d) = inr (ap (λ (v : Answer F). opened_number v) d.answer_is)

  -- an auction is collected, or the answer tells of none
  pub collected_or_not : (m : Moment P T F Q) → Did m → CollectedHere m ⊎ (is_collected m.answer ≡ false)
  collected_or_not m (idle b i e k) = inr k.collects_none
  collected_or_not m (opened d) = inr (ap (λ (v : Answer F). is_collected v) d.answer_is)
  collected_or_not m (stored d) = inr (ap (λ (v : Answer F). is_collected v) d.answer_is)
  collected_or_not m (ticks t x j y f) = inr (ap (λ (v : Answer F). is_collected v) y)
  collected_or_not m (halts t j y f) = inr (ap (λ (v : Answer F). is_collected v) y)
  collected_or_not m (collected d) = inl d

  refused_quiet : (c : Call T) (e : RefusalTold F) → Quiet {F = F} c (Refused e)
  refused_quiet c e = record { opens_none = refl; stores_none = refl; collects_none = refl; ticks_none = refl; halts_none = refl }

  -- a call of which its business in the room as the clock step left it is known
  abbrev business_moment : {Y : Type 0} → RoomState P Q → RoomState P Q → Call T → (Y → Answer F) → RoomState P Q × Result Y (RefusalTold F) → Moment P T F Q
  business_moment s u c f y = record { call = c; before = s; stepped = u; after = y.0; answer = answer_of_result f y.1 }

  abbrev timed_moment : {Y : Type 0} → RoomState P Q → Call T → ℕ → (Y → Answer F) → (RoomState P Q → RoomState P Q × Result Y (RefusalTold F)) → Option ℕ → Moment P T F Q
  timed_moment s c t f business k = business_moment s (after_clock_step k (Some t) s) c f (timed_call k s t business)

  did_timed : {Y : Type 0} (s : RoomState P Q) (c : Call T) (t : ℕ) (f : Y → Answer F) (business : RoomState P Q → RoomState P Q × Result Y (RefusalTold F)) (k : Option ℕ)
      → (k ≡ None → Did (business_moment s (after_clock s t) c f (business (after_clock s t)))) → Did (timed_moment s c t f business k)
  did_timed s c t f business None go = go refl
  did_timed s c t f business (Some e) go = idle s.halted refl refl (refused_quiet c _)

  -- Opening.
  opening_ok : (s : RoomState P Q) (o : PairedOrder) (r : RangePrices) → opening_range w s o ≡ Ok r
      → (permitted_range o.side o.limit (w.market.shows s.position) ≡ Ok r) × (lt_z r.initiating (turned_price o.side o.guarantee.price) ≡ false)
  opening_ok s o r h =
      let past = unless_ok (room_refusal s.halted s.waiting) _ r h in
      let found = and_then_ok (permitted_range o.side o.limit (w.market.shows s.position)) _ r past.1 in
      let last = unless_ok (guarantee_refusal o s.opened found.0) (Ok found.0) r found.2 in
      let same : found.0 ≡ r = let e = last.1 in cc in
      let below = (refuse_none (lt_z found.0.initiating (turned_price o.side o.guarantee.price)) 16 _ last.0).0 in (
        found.1 ∙ ap Ok same,
        subst (λ (z : RangePrices). lt_z z.initiating (turned_price o.side o.guarantee.price) ≡ false) same below,
      )

  -- what opens found no auction that waited
  none_waiting : (es : List EndedValues) → any_waits es ≡ false → length es ≡ 0
  none_waiting [] h = refl
  none_waiting (e ∷ es) h = true_false h

  opening_alone : (s : RoomState P Q) (o : PairedOrder) (r : RangePrices) → opening_range w s o ≡ Ok r → length s.waiting ≡ 0
  opening_alone s o r h =
      let past = unless_ok (room_refusal s.halted s.waiting) _ r h in
      none_waiting s.waiting (refuse_none (any_waits s.waiting) 13 None (refuse_none s.halted 12 _ past.0).1).0

  did_opening : (s u : RoomState P Q) (x : OpeningRequest) (y : Result RangePrices ℕ) → opening_range w u x.order ≡ y → leb 1 x.order.size ≡ true
      → Did (business_moment s u (Open x) Opened (outcome y u (after_opening w u x.order) (λ _. record { room = u.number; auction = u.opened + 1 })))
  did_opening s u x (Ok r) e k = let ok = opening_ok u x.order r e in
      opened (record { request = x; range = r; call_is = refl; answer_is = refl; after_is = refl; permitted_then = ok.0; guaranteed = ok.1; sized = k; none_waited = opening_alone u x.order r e })
  did_opening s u x (Err f) e k = idle u.halted refl refl (refused_quiet (Open x) _)

  -- Ticks.
  did_ticking : (s u : RoomState P Q) (t : ℕ) (x : T) (y : Result (Unit {0}) F) → Did (business_moment s u (Tick t x) (λ _. Accepted) (ticking_by w y u x))
  did_ticking s u t x (Ok k) = ticks t x refl refl refl
  did_ticking s u t x (Err f) = idle u.halted refl refl (refused_quiet (Tick t x) _)

  accepted_quiet : (c : Call T) → tick_in c ≡ None → is_halt c ≡ false → Quiet {F = F} c Accepted
  accepted_quiet c h k = record { opens_none = refl; stores_none = refl; collects_none = refl; ticks_none = ap is_some h; halts_none = k }

  -- Responses. The table as told, with one changed, one withdrawn.
  told_changed : (side : Side) (m o size : ℕ) (z : ℤ) (n : ℕ) (xs : List Response)
      → map (stood_response side) (own_changed m o size z n xs) ≡ changed_then m o (record { price = turned_price side z; size = size }) n (map (stood_response side) xs)
  told_changed side m o size z n [] = refl
  told_changed side m o size z n (x ∷ xs) =
      cond_through (map (stood_response side)) (is_of m o x) (with_terms size z n x ∷ xs) (x ∷ own_changed m o size z n xs)
      ∙ ap (λ l. cond (is_of m o x) (stood_response side (with_terms size z n x) ∷ map (stood_response side) xs) (stood_response side x ∷ l)) (told_changed side m o size z n xs)

  told_withdrawn : (side : Side) (m o : ℕ) (xs : List Response) → map (stood_response side) (without_own m o xs) ≡ withdrawn_then m o (map (stood_response side) xs)
  told_withdrawn side m o [] = refl
  told_withdrawn side m o (x ∷ xs) =
      cond_through (map (stood_response side)) (is_of m o x) xs (x ∷ without_own m o xs)
      ∙ ap (λ l. cond (is_of m o x) (map (stood_response side) xs) (stood_response side x ∷ l)) (told_withdrawn side m o xs)

  same_but : (a b : OpenValues) → b.number ≡ a.number → b.deadline ≡ a.deadline → b.values.order ≡ a.values.order → b.values.floor ≡ a.values.floor → b.values.initiating ≡ a.values.initiating → length b.used ≡ length a.used
      → SameButResponses a b
  same_but a b e f g h k l = record { same_number = e; same_deadline = f; same_order = g; same_floor = h; same_initiating = k; as_many_counts = l }

  -- one more of a member
  more_of : (b : Bool) (member k : ℕ) (used ms : List ℕ) → eqb member k ≡ b → from_to 1 16 member ≡ true → length used ≡ 16 → 1 ≤ k → used_by member used ≡ stored_by member ms → used_by k used ≡ stored_by k ms
      → used_by k (one_more member used) ≡ cond b 1 0 + stored_by k ms
  more_of true member k used ms e i l h x y =
      let is : k - 1 ≡ member - 1 = grind (arith, nat_tests) in
      let inside : member - 1 < length used = grind (arith, nat_tests) in
      let same : member ≡ k = grind (arith, nat_tests) in
      get_or-set_at used (member - 1) (k - 1) (used_by member used + 1) 0 is inside ∙ (let z = ap (λ j. stored_by j ms) same in omega arith)
  more_of false member k used ms e i l h x y =
      let other : k - 1 ≢ member - 1 = grind (arith, nat_tests) in
      get_or-set_other used (member - 1) (k - 1) (used_by member used + 1) 0 other ∙ y ∙ omega arith

  counts_more : (a : OpenValues) (member : ℕ) (xs : List Response) → from_to 1 16 member ≡ true → length a.used ≡ 16 → (ms : List ℕ) → CountsThese ms a → CountsThese (member ∷ ms) (with_counted a member xs)
  counts_more a member xs i l ms c =
      let low : 1 ≤ member = grind (arith, nat_tests) in
      let high : member ≤ 16 = grind (arith, nat_tests) in
      let before = c.all in
      record { all = omega arith; of_each = λ k h g. more_of (eqb member k) member k a.used ms refl i l h (c.of_each member low high) (c.of_each k h g) }

  -- an accepted response found the auction open, is not above the initiating price, and has an own number that is free
  responding_ok : (c : Option OpenValues) (x : ResponseRequest) (a : OpenValues) → responding_to c x ≡ Ok a
      → (c ≡ Some a) × (lt_z a.values.initiating (turned_in a x.price) ≡ false) × (is_some (own_response x.member x.own_number a.values.stood) ≡ false)
  responding_ok None x a h = ok_err a _ (sym h)
  responding_ok (Some b) x a h =
      let past = unless_ok (side_checked b x.side (above_checked b x.price (in_use_checked b x.member x.own_number (used_checked b x.member None)))) (Ok b) a h in
      let same : b ≡ a = let e = past.1 in cc in
      let side = refuse_none _ 22 (above_checked b x.price (in_use_checked b x.member x.own_number (used_checked b x.member None))) past.0 in
      let above = refuse_none (lt_z b.values.initiating (turned_in b x.price)) 23 (in_use_checked b x.member x.own_number (used_checked b x.member None)) side.1 in
      let free = refuse_none (is_some (own_response x.member x.own_number b.values.stood)) 24 (used_checked b x.member None) above.1 in (
        ap Some same,
        subst (λ (z : OpenValues). lt_z z.values.initiating (turned_in z x.price) ≡ false) same above.0,
        subst (λ (z : OpenValues). is_some (own_response x.member x.own_number z.values.stood) ≡ false) same free.0,
      )

  -- a stored response may stand
  response_sound : (a : OpenValues) (x : ResponseRequest) → TermsInside x.size x.member x.own_number → lt_z a.values.initiating (turned_in a x.price) ≡ false → Sound a.values → Sound (with_response a x).values
  response_sound a x i k h =
      let ok = stored_may_stand a.values.order.size a.values.floor a.values.initiating x.size (turned_in a x.price) h.sized h.in_order i.sized k in
      let good : response_ok a.values.order.size a.values.floor a.values.initiating (as_stored a x) ≡ true =
      and_from (from_to 1 16 x.member) _ i.member_inside (and_from (from_to 1 4 x.own_number) _ i.own_inside ok) in
      stood_sound a.values (a.values.stood ++ as_stored a x ∷ []) h (each_push (response_ok a.values.order.size a.values.floor a.values.initiating) a.values.stood (as_stored a x) h.standing good)

  did_responding : (s u : RoomState P Q) (x : ResponseRequest) (y : Result OpenValues ℕ) → responding_to u.current x ≡ y → TermsInside x.size x.member x.own_number
      → Did (business_moment s u (Respond x) Stored (outcome y u (λ a. after_response u a x) (λ a. terms_told a (stored_price a x.price) (stored_size a x.size))))
  did_responding s u x (Ok a) e i =
      let ok = responding_ok u.current x a e in
      stored (record {
        was = a;
        now = with_response a x;
        terms = terms_told a (stored_price a x.price) (stored_size a x.size);
        was_open = ok.0;
        answer_is = refl;
        same = same_but a (with_response a x) refl refl refl refl refl (length-set a.used _ _);
        stood_is = map-append (stood_response a.values.order.side) a.values.stood (as_stored a x ∷ []);
        sound = response_sound a x i ok.1;
        apart = apart_response a x ok.2;
        counts = counts_more a x.member (a.values.stood ++ as_stored a x ∷ []) i.member_inside;
        after_is = ap (λ (b : Bool). cond b (after_end (byte "E") (with_current (with_response a x) u)) (with_current (with_response a x) u)) (sym (plain_is x.kind (lt_z (turned_price a.values.order.side x.price) a.values.floor)));
      })
  did_responding s u x (Err f) e i = idle u.halted refl refl (refused_quiet (Respond x) _)

  -- Changes.
  changing_ok : (c : Option OpenValues) (x : ChangeRequest) (a : OpenValues) → changing_in c x ≡ Ok a → (c ≡ Some a) × (lt_z a.values.initiating (turned_in a x.price) ≡ false)
  changing_ok None x a h = ok_err a _ (sym h)
  changing_ok (Some b) x a h =
      let found = and_then_ok (standing_now (own_response x.member x.own_number b.values.stood)) (λ y. unless (plain_checked y (above_checked b x.price (used_checked b x.member None))) (Ok b)) a h in
      let past = unless_ok (plain_checked found.0 (above_checked b x.price (used_checked b x.member None))) (Ok b) a found.2 in
      let same : b ≡ a = let e = past.1 in cc in
      let plain = refuse_none _ 26 (above_checked b x.price (used_checked b x.member None)) past.0 in
      let above = refuse_none (lt_z b.values.initiating (turned_in b x.price)) 23 (used_checked b x.member None) plain.1 in
      (ap Some same, subst (λ (z : OpenValues). lt_z z.values.initiating (turned_in z x.price) ≡ false) same above.0)

  change_sound : (a : OpenValues) (x : ChangeRequest) → TermsInside x.size x.member x.own_number → lt_z a.values.initiating (turned_in a x.price) ≡ false → Sound a.values → Sound (with_change a x).values
  change_sound a x i k h =
      let ok = stored_may_stand a.values.order.size a.values.floor a.values.initiating x.size (turned_in a x.price) h.sized h.in_order i.sized k in
      stood_sound a.values _ h (each_changed x.member x.own_number a.values.order.size a.values.floor a.values.initiating (stored_size a x.size) (stored_price a x.price) (a.arrivals + 1) a.values.stood ok h.standing)

  did_changing : (s u : RoomState P Q) (x : ChangeRequest) (y : Result OpenValues ℕ) → changing_in u.current x ≡ y → TermsInside x.size x.member x.own_number
      → Did (business_moment s u (Change x) Stored (outcome y u (λ a. with_current (with_change a x) u) (λ a. terms_told a (stored_price a x.price) (stored_size a x.size))))
  did_changing s u x (Ok a) e i =
      let ok = changing_ok u.current x a e in
      let changed = own_changed x.member x.own_number (stored_size a x.size) (stored_price a x.price) (a.arrivals + 1) a.values.stood in
      stored (record {
        was = a;
        now = with_change a x;
        terms = terms_told a (stored_price a x.price) (stored_size a x.size);
        was_open = ok.0;
        answer_is = refl;
        same = same_but a (with_change a x) refl refl refl refl refl (length-set a.used _ _);
        stood_is = told_changed a.values.order.side x.member x.own_number (stored_size a x.size) (stored_price a x.price) (a.arrivals + 1) a.values.stood;
        sound = change_sound a x i ok.1;
        apart = apart_change a x;
        counts = counts_more a x.member changed i.member_inside;
        after_is = refl;
      })
  did_changing s u x (Err f) e i = idle u.halted refl refl (refused_quiet (Change x) _)

  -- Withdrawals.
  withdrawing_ok : (c : Option OpenValues) (x : WithdrawRequest) (f : OpenValues × Response) → withdrawing_from c x ≡ Ok f → c ≡ Some f.0
  withdrawing_ok None x f h = ok_err f _ (sym h)
  withdrawing_ok (Some b) x f h =
      let found = and_then_ok (standing_now (own_response x.member x.own_number b.values.stood)) (λ y. unless (plain_checked y None) (Ok (b, y))) f h in
      let past = unless_ok (plain_checked found.0 None) (Ok (b, found.0)) f found.2 in
      let same : (b, found.0) ≡ f = let e = past.1 in cc in
      ap (λ (z : OpenValues × Response). Some z.0) same

  did_withdrawing : (s u : RoomState P Q) (x : WithdrawRequest) (y : Result (OpenValues × Response) ℕ) → withdrawing_from u.current x ≡ y
      → Did (business_moment s u (Withdraw x) Stored (outcome y u (λ f. with_current (with_withdrawal f.0 x) u) (λ f. terms_told f.0 f.1.price f.1.size)))
  did_withdrawing s u x (Ok f) e =
      let a = f.0 in
      stored (record {
        was = a;
        now = with_withdrawal a x;
        terms = terms_told a f.1.price f.1.size;
        was_open = withdrawing_ok u.current x f e;
        answer_is = refl;
        same = same_but a (with_withdrawal a x) refl refl refl refl refl refl;
        stood_is = told_withdrawn a.values.order.side x.member x.own_number a.values.stood;
        sound = λ h. stood_sound a.values _ h (each_without x.member x.own_number (response_ok a.values.order.size a.values.floor a.values.initiating) a.values.stood h.standing);
        apart = apart_withdrawal a x;
        counts = λ l ms c. record { all = c.all; of_each = c.of_each };
        after_is = refl;
      })
  did_withdrawing s u x (Err f) e = idle u.halted refl refl (refused_quiet (Withdraw x) _)

  -- Collecting.
  waiting_ok : (o : Option EndedValues) (e : EndedValues) → waiting_now o ≡ Ok e → o ≡ Some e
  waiting_ok None e h = ok_err e _ (sym h)
  waiting_ok (Some x) e h = let same : x ≡ e = cc in ap Some same

  collect_ok : (s : RoomState P Q) (c : ClaimNumbers) (n : ℕ) (e : EndedValues) → collectable s c n ≡ Ok e → waiting_auction c.auction s.waiting ≡ Some e
  collect_ok s c n e h =
      let long = unless_ok (collect_checks n) _ e h in
      let ours = unless_ok (refuse (not (eqb c.room s.number)) 42 (refuse (is_number c.auction s.current) 41 None)) _ e long.1 in
      waiting_ok (waiting_auction c.auction s.waiting) e ours.1

  did_collecting : (s u : RoomState P Q) (c : ClaimNumbers) (n : ℕ) (y : Result EndedValues ℕ) → u ≡ s → collectable s c n ≡ y
      → Did (business_moment s u (Collect c n) (λ k. Collected k (written_rows w y)) (outcome y s (λ e. with_waiting (without_number c.auction s.waiting) s) (λ e. record { count = length (fill_rows w e); cause = e.cause })))
  did_collecting s u c n (Ok e) h k =
      collected (record {
        claim = c;
        rows = n;
        auction = e;
        call_is = refl;
        no_clock_step = h;
        answer_is = refl;
        after_is = sym (ap (λ (z : RoomState P Q). with_waiting (without_number c.auction z.waiting) z) h);
        waited = ap (λ (z : RoomState P Q). waiting_auction c.auction z.waiting) h ∙ collect_ok s c n e k;
      })
  did_collecting s u c n (Err f) h k = idle s.halted (ap (λ (z : RoomState P Q). z.halted) (sym h)) (sym (ap (λ (z : RoomState P Q). with_halted s.halted z) h)) (refused_quiet (Collect c n) _)

  looked_quiet : (v : _) → Quiet {T = T} {F = F} Look (Looked v)
  looked_quiet v = record { opens_none = refl; stores_none = refl; collects_none = refl; ticks_none = refl; halts_none = refl }

  -- every call has one of these shapes
  pub did : (s : RoomState P Q) (c : Call T) → Did (moment w s c)
  did s (Open x) =
      did_timed s (Open x) x.time Opened (λ u. opening w u x.order) (open_checks x)
      (λ k. let u = after_clock s x.time in did_opening s u x (opening_range w u x.order) refl (opening_sized x k))
  did s (Respond x) =
      did_timed s (Respond x) x.time Stored (λ u. responding u x) (respond_checks x) (λ k. let u = after_clock s x.time in did_responding s u x (responding_to u.current x) refl (response_inside x k))
  did s (Change x) =
      did_timed s (Change x) x.time Stored (λ u. changing u x) (change_checks x) (λ k. let u = after_clock s x.time in did_changing s u x (changing_in u.current x) refl (change_inside x k))
  did s (Withdraw x) =
      did_timed s (Withdraw x) x.time Stored (λ u. withdrawing u x) (withdraw_checks x) (λ k. let u = after_clock s x.time in did_withdrawing s u x (withdrawing_from u.current x) refl)
  did s (Tick t x) = did_timed s (Tick t x) t (λ _. Accepted) (λ u. ticking w u x) (time_checks t) (λ k. let u = after_clock s t in did_ticking s u t x (w.market.answer u.position x))
  did s (Halt t) = did_timed s (Halt t) t (λ _. Accepted) (λ u. (with_halted true (after_end (byte "H") u), Ok tt)) (time_checks t) (λ k. halts t refl refl refl)
  did s (Resume t) = did_timed s (Resume t) t (λ _. Accepted) (λ u. (with_halted false u, Ok tt)) (time_checks t) (λ k. idle false refl refl (accepted_quiet (Resume t) refl refl))
  did s (Clock t) = did_timed s (Clock t) t (λ _. Accepted) (λ u. (u, Ok tt)) (time_checks t) (λ k. idle (after_clock s t).halted refl refl (accepted_quiet (Clock t) refl refl))
  did s Look = idle s.halted refl refl (looked_quiet _)
  did s (Collect c n) = did_collecting s (after_clock_step (collect_checks n) None s) c n (collectable s c n) (unstepped (collect_checks n) s) refl
