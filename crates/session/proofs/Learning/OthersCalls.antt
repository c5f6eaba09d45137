-- Calls of which a member is not shown the answer: what it knows after one follows from what it knew before, from whether
-- the call opened an auction, and from whether one ended.
use Rattle.std.proofs.Common.{◌≡◌, ℕ, ◌+◌, ◌≤◌, Bool, true, false, cond, not, eqb, is_some, Some, None, Ok, Err, Option, Result, sym, refl, ap, ◌∙◌}
use Rattle.std.proofs.lemmas.Bool.{cond-true, cond-false}
use Rattle.std.specs.Option.{option_map}
use Rattle.market.specs.declared.quote.Quote.{Quote}
use Rattle.market.specs.Range.{RangePrices, permitted_range, turned_quote}
use Rattle.allocation.specs.declared.order.PairedOrder.{PairedOrder}
use Rattle.allocation.specs.declared.response.Response.{Response}
use Rattle.room.specs.declared.answers.ClaimNumbers.{ClaimNumbers}
use Rattle.room.specs.declared.answers.StoredTerms.{StoredTerms}
use Rattle.room.specs.declared.requests.ChangeRequest.{ChangeRequest}
use Rattle.room.specs.declared.requests.ResponseRequest.{ResponseRequest}
use Rattle.room.specs.declared.requests.WithdrawRequest.{WithdrawRequest}
use Rattle.room.specs.Checks.{collect_checks}
use Rattle.room.specs.Collecting.{CollectionTold, waiting_now, collect_call}
use Rattle.room.specs.Openings.{room_refusal, guarantee_refusal, new_auction, after_opening, opening}
use Rattle.room.specs.Refusals.{RefusalTold, refuse, unless, and_then, outcome}
use Rattle.allocation.specs.Table.{own_response}
use Rattle.room.specs.Responses.{as_stored, with_response, with_change, with_withdrawal, plain_below_floor, after_response, responding_to, responding, changing_in, changing, withdrawing_from, withdrawing, standing_now, plain_checked, above_checked, used_checked, side_checked, in_use_checked, stored_size, stored_price}
use Rattle.room.specs.State.{OpenValues, EndedValues, RoomState, is_number, waiting_auction, without_number, at_position, with_current, with_waiting, after_end}
use Rattle.room.specs.Ticks.{tick_cause, after_tick_cause, after_shown, at_floor, floor_now, ticking_by, ticking}
use Rattle.room.specs.World.{World}
use Rattle.session.specs.History.{opened_number}
use Rattle.session.specs.Runs.{Opened, answer_of_result}
use Rattle.session.proofs.Learning.Hidden.{order_without}
use Rattle.session.proofs.Learning.Known.{Known, known, known_auction, numbers, ended_known, settled, with_auction_known, at_position_known, with_waiting_known, refloored, opened_known, opening_known, ticking_known_by, ticking_known, is_number_known, numbered_known, waiting_known, collectable_known, collected_by}
use Rattle.session.proofs.Learning.OwnRows.{others_push, others_changed, others_withdrawn, own_count_other, numbered_follows, without_number_follows}
use Rattle.session.proofs.Learning.Endings.{auction_rows, ends_in, gone_ends, kept_ends_not, ended_follows, with_current_same, closed_follows}
use Rattle.std.specs.Str.{byte}

module _ {P Q : Type 0} (F : Type 0) (u : ℕ) where
  -- Another member's response is stored, and ends the auction or not.
  module _ (s : RoomState P Q) (x : ResponseRequest) (member : 1 ≤ x.member) (other : eqb x.member u ≡ false) where
    response_unknown : (a : OpenValues) → s.current ≡ Some a → known u (with_current (with_response a x) s) ≡ known u s
    response_unknown a e =
        with_current_same u s a (with_response a x) e
        (auction_rows u a (with_response a x).values.stood (with_response a x).arrivals (with_response a x).used _ _
        (others_push u a.values.stood (as_stored a x) other) (own_count_other u x.member a.used member other))

    stored_or_ended : (b : Bool) (a : OpenValues) → s.current ≡ Some a
        → let t = with_current (with_response a x) s in let z = cond b (after_end (byte "E") t) t in
        known u z ≡ settled (ends_in (Some a) z.current) (known u s)
    stored_or_ended true a e =
        ended_follows u (byte "E") (with_current (with_response a x) s)
        ∙ ap ended_known (response_unknown a e)
        ∙ sym (cond-true (ends_in (Some a) None) (ended_known (known u s)) (known u s) (gone_ends a))
    stored_or_ended false a e =
        response_unknown a e
        ∙ sym (cond-false (ends_in (Some a) (Some (with_response a x))) (ended_known (known u s)) (known u s) (kept_ends_not a (with_response a x) refl))

    taken_or_refused : (r : Option ℕ) (a : OpenValues) (tells : OpenValues → StoredTerms) → s.current ≡ Some a
        → let z = (outcome {F = F} (unless r (Ok a)) s (λ b. after_response s b x) tells).0 in known u z ≡ settled (ends_in (Some a) z.current) (known u s)
    taken_or_refused None a tells e = stored_or_ended (plain_below_floor a x) a e
    taken_or_refused (Some f) a tells e =
        sym (cond-false (ends_in (Some a) s.current) (ended_known (known u s)) (known u s) (ap (ends_in (Some a)) e ∙ kept_ends_not a a refl))

    responding_by : (o : Option OpenValues) (tells : OpenValues → StoredTerms) → s.current ≡ o
        → let z = (outcome {F = F} (responding_to o x) s (λ b. after_response s b x) tells).0 in known u z ≡ settled (ends_in o z.current) (known u s)
    responding_by None tells e = refl
    responding_by (Some a) tells e =
        taken_or_refused (side_checked a x.side (above_checked a x.price (in_use_checked a x.member x.own_number (used_checked a x.member None)))) a tells e

    pub others_responding : let z = (responding {F = F} s x).0 in known u z ≡ settled (ends_in s.current z.current) (known u s)
    others_responding = responding_by s.current _ refl

  -- A change or withdrawal of what stands, where the effect on the auction is not known to the member, leaves what it knows.
  unless_unknown : {X Y : Type 0} (s : RoomState P Q) (r : Option ℕ) (y : X) (effect : X → RoomState P Q) (tells : X → Y)
      → known u (effect y) ≡ known u s → known u (outcome {F = F} (unless r (Ok y)) s effect tells).0 ≡ known u s
  unless_unknown s None y effect tells h = h
  unless_unknown s (Some f) y effect tells h = refl

  standing_unknown : {X Y : Type 0} (s : RoomState P Q) (o : Option Response) (r : Response → Option ℕ) (g : Response → X) (effect : X → RoomState P Q) (tells : X → Y)
      → ((y : Response) → known u (effect (g y)) ≡ known u s)
      → known u (outcome {F = F} (and_then (standing_now o) (λ y. unless (r y) (Ok (g y)))) s effect tells).0 ≡ known u s
  standing_unknown s None r g effect tells h = refl
  standing_unknown s (Some y) r g effect tells h = unless_unknown s (r y) (g y) effect tells (h y)

  -- Another member's change.
  module _ (s : RoomState P Q) (x : ChangeRequest) (member : 1 ≤ x.member) (other : eqb x.member u ≡ false) where
    changing_by : (o : Option OpenValues) (tells : OpenValues → StoredTerms) → s.current ≡ o
        → known u (outcome {F = F} (changing_in o x) s (λ a. with_current (with_change a x) s) tells).0 ≡ known u s
    changing_by None tells e = refl
    changing_by (Some a) tells e =
        standing_unknown s (own_response x.member x.own_number a.values.stood) (λ y. plain_checked y (above_checked a x.price (used_checked a x.member None))) (λ y. a)
        (λ a. with_current (with_change a x) s) tells
        (λ y. with_current_same u s a (with_change a x) e
        (auction_rows u a (with_change a x).values.stood (with_change a x).arrivals (with_change a x).used _ _
        (others_changed u x.member x.own_number (stored_size a x.size) (stored_price a x.price) (a.arrivals + 1) a.values.stood other)
        (own_count_other u x.member a.used member other)))

    pub others_changing : known u (changing {F = F} s x).0 ≡ known u s
    others_changing = changing_by s.current _ refl

  -- Another member's withdrawal.
  module _ (s : RoomState P Q) (x : WithdrawRequest) (other : eqb x.member u ≡ false) where
    withdrawing_by : (o : Option OpenValues) (tells : OpenValues × Response → StoredTerms) → s.current ≡ o
        → known u (outcome {F = F} (withdrawing_from o x) s (λ f. with_current (with_withdrawal f.0 x) s) tells).0 ≡ known u s
    withdrawing_by None tells e = refl
    withdrawing_by (Some a) tells e =
        standing_unknown s (own_response x.member x.own_number a.values.stood) (λ y. plain_checked y None) (λ y. (a, y))
        (λ f. with_current (with_withdrawal f.0 x) s) tells
        (λ y. with_current_same u s a (with_withdrawal a x) e
        (auction_rows u a (with_withdrawal a x).values.stood a.arrivals a.used _ _
        (others_withdrawn u x.member x.own_number a.values.stood other) refl))

    pub others_withdrawing : known u (withdrawing {F = F} s x).0 ≡ known u s
    others_withdrawing = withdrawing_by s.current _ refl

-- The answer of an opening that was accepted.
abbrev pub opens_in : {F : Type 0} → Result ClaimNumbers (RefusalTold F) → Bool
opens_in y = is_some (opened_number (answer_of_result Opened y))

-- A tick.
module _ {P T F Q : Type 0} (w : World P T F Q) (u : ℕ) where
  module _ (s : RoomState P Q) (p : P) where
    ticked_for_follows : (c : Option ℕ) (a : OpenValues) (q : Quote)
        → let z = after_tick_cause c (turned_quote a.values.order.side q) (at_position p s) a in let j = at_position_known p (known u s) in
        known u z ≡ cond (ends_in (Some a) z.current) (ended_known j) (with_auction_known (Some (refloored q (known_auction u a))) j)
    ticked_for_follows (Some c) a q =
        let j = at_position_known p (known u s) in
        ended_follows u c (at_position p s)
        ∙ sym (cond-true (ends_in (Some a) None) (ended_known j) (with_auction_known (Some (refloored q (known_auction u a))) j) (gone_ends a))
    ticked_for_follows None a q =
        let j = at_position_known p (known u s) in
        let b = at_floor (floor_now (turned_quote a.values.order.side q).floor a.values.floor) a in
        sym (cond-false (ends_in (Some a) (Some b)) (ended_known j) (with_auction_known (Some (refloored q (known_auction u a))) j) (kept_ends_not a b refl))

    ticked_follows : (o : Option OpenValues) (q : Quote) → s.current ≡ o
        → let z = after_shown o q (at_position p s) in let j = at_position_known p (known u s) in
        known u z ≡ cond (ends_in o z.current) (ended_known j) (with_auction_known (option_map (refloored q) (option_map (known_auction u) o)) j)
    ticked_follows None q e = ap (λ o. with_auction_known (option_map (known_auction u) o) (at_position_known p (known u s))) e
    ticked_follows (Some a) q e = ticked_for_follows (tick_cause a.values (turned_quote a.values.order.side q)) a q

  ticking_by_follows : (r : Result (Unit {0}) F) (s : RoomState P Q) (t : T)
      → let z = (ticking_by w r s t).0 in known u z ≡ ticking_known_by w u r (ends_in s.current z.current) (known u s) t
  ticking_by_follows (Ok _) s t = let p = w.market.next s.position t in ticked_follows s p s.current (w.market.shows p) refl
  ticking_by_follows (Err f) s t = refl

  pub ticking_follows : (s : RoomState P Q) (t : T) → let z = (ticking w s t).0 in known u z ≡ ticking_known w u (ends_in s.current z.current) (known u s) t
  ticking_follows s t = ticking_by_follows (w.market.answer s.position t) s t

  -- A tick after an end.
  over_by : (r : Result (Unit {0}) F) (t : T) (b : Bool) (k : Known P Q) → ticking_known_by w u r b (ended_known k) t ≡ ticking_known_by w u r false (ended_known k) t
  over_by (Ok _) t true k = refl
  over_by (Ok _) t false k = refl
  over_by (Err f) t b k = refl

  pub ticking_over : (t : T) (b : Bool) (k : Known P Q) → ticking_known w u b (ended_known k) t ≡ ticking_known w u false (ended_known k) t
  ticking_over t b k = over_by (w.market.answer k.position t) t b k

  -- An opening.
  opened_follows : (s : RoomState P Q) (o : PairedOrder) (r : RangePrices) → known u (after_opening w s o r) ≡ opened_known w u (Ok r) (known u s) (order_without o)
  opened_follows s o r =
      ap (λ ns. record {
        number = s.number;
        time = s.time;
        halted = s.halted;
        position = s.position;
        source = w.source.next s.source;
        auction = Some (known_auction u (new_auction w s o r));
        waiting = ns;
        opened = s.opened + 1;
      }) (closed_follows u (byte "A") s.current s.waiting)

  module _ (s : RoomState P Q) (o : PairedOrder) (tells : RangePrices → ClaimNumbers) where
    accepted_opening : (g : Option ℕ) (r : RangePrices)
        → let y = outcome {F = F} (unless g (Ok r)) s (after_opening w s o) tells in
        known u y.0 ≡ cond (opens_in y.1) (opened_known w u (Ok r) (known u s) (order_without o)) (known u s)
    accepted_opening None r = opened_follows s o r
    accepted_opening (Some f) r = refl

    opening_by : (a : Option ℕ) (b : Result RangePrices ℕ) (g : RangePrices → Option ℕ)
        → let y = outcome {F = F} (unless a (and_then b (λ r. unless (g r) (Ok r)))) s (after_opening w s o) tells in
        known u y.0 ≡ cond (opens_in y.1) (opened_known w u b (known u s) (order_without o)) (known u s)
    opening_by (Some f) b g = refl
    opening_by None (Err f) g = refl
    opening_by None (Ok r) g = accepted_opening (g r) r

  pub opening_follows : (s : RoomState P Q) (o : PairedOrder) → let y = opening w s o in known u y.0 ≡ opening_known w u (opens_in y.1) (known u s) (order_without o)
  opening_follows s o =
      opening_by s o _ (room_refusal s.halted s.waiting) (permitted_range o.side o.limit (w.market.shows s.position)) (guarantee_refusal o s.opened)

-- A collecting.
pub is_number_follows : (u n : ℕ) (o : Option OpenValues) → is_number_known n (option_map (known_auction u) o) ≡ is_number n o
is_number_follows u n None = refl
is_number_follows u n (Some a) = refl

module _ {P T F Q : Type 0} (w : World P T F Q) (u : ℕ) (s : RoomState P Q) (c : ClaimNumbers) where
  collected_follows : (a b : Option ℕ) (o : Option EndedValues) (tells : EndedValues → CollectionTold)
      → known u (outcome {F = F} (unless a (unless b (waiting_now o))) s (λ e. with_waiting (without_number c.auction s.waiting) s) tells).0
      ≡ collected_by (unless a (unless b (waiting_known (option_map (λ (e : EndedValues). e.number) o)))) c.auction (known u s)
  collected_follows (Some f) b o tells = refl
  collected_follows None (Some f) o tells = refl
  collected_follows None None None tells = refl
  collected_follows None None (Some e) tells = ap (λ ns. with_waiting_known ns (known u s)) (without_number_follows c.auction s.waiting)

  pub collecting_follows : (rows : ℕ) → known u (collect_call w s c rows).0 ≡ collected_by (collectable_known (known u s) c rows) c.auction (known u s)
  collecting_follows rows =
      let a : Option ℕ = collect_checks rows in
      let b : Bool → Option ℕ = λ i. refuse (not (eqb c.room s.number)) 42 (refuse i 41 None) in
      collected_follows a (b (is_number c.auction s.current)) (waiting_auction c.auction s.waiting) _
      ∙ ap (λ o. collected_by (unless a (unless (b (is_number c.auction s.current)) (waiting_known o))) c.auction (known u s)) (sym (numbered_follows c.auction s.waiting))
      ∙ ap (λ i. collected_by (unless a (unless (b i) (waiting_known (numbered_known c.auction (numbers s.waiting))))) c.auction (known u s)) (sym (is_number_follows u c.auction s.current))
