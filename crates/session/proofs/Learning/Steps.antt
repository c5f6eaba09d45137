-- Each call: what a member knows after it, and what it is shown of the answer, follow from what it knew before, from the
-- call without what is hidden, from whether it opened an auction, and from whether one ended.
use Rattle.std.proofs.Common.{◌≡◌, ℕ, ◌≤◌, Bool, true, false, cond, eqb, Some, None, Option, Result, sym, refl, ap, ◌∙◌, subst}
use Rattle.std.proofs.lemmas.Bool.{cond-true, cond-false, eqb-true}
use Rattle.std.proofs.lemmas.List.{length-map}
use Rattle.std.specs.Option.{option_map}
use Rattle.room.specs.declared.answers.StoredTerms.{StoredTerms}
use Rattle.room.specs.declared.requests.ChangeRequest.{ChangeRequest}
use Rattle.room.specs.declared.requests.OpeningRequest.{OpeningRequest}
use Rattle.room.specs.declared.requests.ResponseRequest.{ResponseRequest}
use Rattle.room.specs.declared.requests.WithdrawRequest.{WithdrawRequest}
use Rattle.room.specs.Checks.{open_checks, respond_checks, change_checks, withdraw_checks, time_checks}
use Rattle.room.specs.Clock.{after_clock, timed_call}
use Rattle.room.specs.Looks.{auction_view, look_call}
use Rattle.room.specs.Openings.{opening, open_call}
use Rattle.room.specs.Responses.{responding, respond_call, changing, change_call, withdrawing, withdraw_call}
use Rattle.room.specs.State.{OpenValues, EndedValues, RoomState}
use Rattle.room.specs.Ticks.{ticking}
use Rattle.room.specs.World.{World}
use Rattle.session.specs.declared.call.Call.{Call}
use Rattle.session.specs.declared.call.Call.TheVariants.{Open, Respond, Change, Withdraw, Tick, Halt, Resume, Clock, Look, Collect}
use Rattle.session.specs.Learning.{seen_by, opens_here, ends_here}
use Rattle.session.specs.Runs.{Answer, Stored, Looked, answer_of_result, step, moment}
use Rattle.session.proofs.Learning.Hidden.{opening_without, response_without, change_without, without_hidden}
use Rattle.session.proofs.Learning.Known.{Known, known, known_auction, settled, ended_known, with_halted_known, later_known, timed_known, opening_known, ticking_known, responding_known, changing_known, withdrawing_known, view_known, look_known, shown_whole, known_step}
use Rattle.session.proofs.Learning.Endings.{ends_in, ends_here_is, ended_follows, clocked_follows, ends_after_clock}
use Rattle.session.proofs.Learning.OthersCalls.{opens_in, others_responding, others_changing, others_withdrawing, ticking_follows, ticking_over, opening_follows, collecting_follows}
use Rattle.session.proofs.Learning.InputChecks.{responding_member, changing_member, open_checks_same, respond_checks_same, change_checks_same}
use Rattle.session.proofs.Learning.OwnCalls.{with_answer, own_responds, own_changes, own_withdraws}
use Rattle.std.specs.Str.{byte}
use Rattle.room.specs.Refusals.{RefusalTold}

-- After an end there is nothing left to end.
settled_over : {P Q : Type 0} (b : Bool) (k : Known P Q) → settled b (ended_known k) ≡ settled false (ended_known k)
settled_over true k = refl
settled_over false k = refl

view_follows : (u : ℕ) (o : Option OpenValues) → option_map auction_view o ≡ option_map view_known (option_map (known_auction u) o)
view_follows u None = refl
view_follows u (Some a) = refl

module _ {P T F Q : Type 0} (w : World P T F Q) (u : ℕ) (s : RoomState P Q) where
  -- A timed call whose business is known.
  later_follows : {Y F : Type 0} (r : Option ℕ) (t : ℕ) (business : RoomState P Q → RoomState P Q × Result Y (RefusalTold F)) (goes : Known P Q → Known P Q)
      → (r ≡ None → (z : RoomState P Q) → known u (business z).0 ≡ goes (known u z))
      → known u (timed_call r s t business).0 ≡ later_known r (known u s) t goes
  later_follows None t business goes h = h refl (after_clock s t) ∙ ap goes (clocked_follows u s t)
  later_follows (Some e) t business goes h = refl

  -- The member's own call: all of the answer is shown.
  own_shown : (member : ℕ) (r : Option ℕ) (t : ℕ) (y : RoomState P Q × Result StoredTerms (RefusalTold F)) (goes : Known P Q → Known P Q × Result StoredTerms (RefusalTold F)) (others : Known P Q × Option (Answer F))
      → eqb member u ≡ true → with_answer member y ≡ timed_known r (known member s) t goes
      → (known u y.0, Some (answer_of_result Stored y.1)) ≡ cond (eqb member u) (shown_whole (timed_known r (known u s) t goes)) others
  own_shown member r t y goes others h mine =
      ap shown_whole (subst (λ v. with_answer v y ≡ timed_known r (known v s) t goes) (eqb-true member u h) mine) ∙ sym (cond-true (eqb member u) _ others h)

  -- Another's: none of it.
  others_shown : (member : ℕ) (z : RoomState P Q) (k : Known P Q) (mine : Known P Q × Option (Answer F)) → eqb member u ≡ false → known u z ≡ k
      → (known u z, None) ≡ cond (eqb member u) mine (k, None)
  others_shown member z k mine h e = ap (λ j. (j, None)) e ∙ sym (cond-false (eqb member u) mine (k, None) h)

  -- An opening.
  opens_later : (r : Option ℕ) (x : OpeningRequest)
      → let y = timed_call r s x.time (λ z. opening w z x.order) in
      known u y.0 ≡ later_known r (known u s) x.time (λ j. opening_known w u (opens_in y.1) j (opening_without x).order)
  opens_later None x =
      let z = after_clock s x.time in
      opening_follows w u z x.order
      ∙ ap (λ j. opening_known w u (opens_in (opening w z x.order).1) j (opening_without x).order) (clocked_follows u s x.time)
  opens_later (Some e) x = refl

  open_follows : (x : OpeningRequest)
      → let y = open_call w s x in
      known u y.0 ≡ later_known (open_checks (opening_without x)) (known u s) x.time (λ j. opening_known w u (opens_in y.1) j (opening_without x).order)
  open_follows x =
      let opens = opens_in (open_call w s x).1 in
      opens_later (open_checks x) x
      ∙ ap (λ r. later_known r (known u s) x.time (λ j. opening_known w u opens j (opening_without x).order)) (open_checks_same F x)

  -- A response: the member's own, or another's.
  responds_later : (r : Option ℕ) (x : ResponseRequest) → (r ≡ None → 1 ≤ x.member) → eqb x.member u ≡ false
      → let z = (timed_call r s x.time (λ v. responding {F = F} v x)).0 in
      known u z ≡ later_known r (known u s) x.time (settled (ends_in s.current z.current))
  responds_later None x g h =
      let v = after_clock s x.time in
      let z = (responding {F = F} v x).0 in
      ends_after_clock u settled settled_over s x.time z (others_responding F u v x (g refl) h)
      ∙ ap (settled (ends_in s.current z.current)) (clocked_follows u s x.time)
  responds_later (Some e) x g h = refl

  respond_by : (b : Bool) (x : ResponseRequest) → eqb x.member u ≡ b
      → let y = respond_call {F = F} s x in
      (known u y.0, cond b (Some (answer_of_result Stored y.1)) None)
      ≡ known_step w u false (ends_in s.current y.0.current) (known u s) (Respond (response_without b x))
  respond_by true x h = own_shown x.member (respond_checks x) x.time (respond_call s x) (λ k. responding_known k x) _ h (own_responds F s x)
  respond_by false x h =
      let goes = settled (ends_in s.current (respond_call {F = F} s x).0.current) in
      others_shown x.member _ _ _ h (responds_later (respond_checks x) x (responding_member x) h ∙ ap (λ r. later_known r (known u s) x.time goes) (respond_checks_same F x))

  -- A change.
  change_by : (b : Bool) (x : ChangeRequest) → eqb x.member u ≡ b
      → let y = change_call {F = F} s x in
      (known u y.0, cond b (Some (answer_of_result Stored y.1)) None) ≡ known_step w u false false (known u s) (Change (change_without b x))
  change_by true x h = own_shown x.member (change_checks x) x.time (change_call s x) (λ k. changing_known k x) _ h (own_changes F s x)
  change_by false x h =
      others_shown x.member _ _ _ h
      (later_follows (change_checks x) x.time (λ v. changing v x) (λ k. k) (λ e v. others_changing F u v x (changing_member x e) h)
      ∙ ap (λ r. later_known r (known u s) x.time (λ k. k)) (change_checks_same F x))

  -- A withdrawal.
  withdraw_by : (b : Bool) (x : WithdrawRequest) → eqb x.member u ≡ b
      → let y = withdraw_call {F = F} s x in
      (known u y.0, cond b (Some (answer_of_result Stored y.1)) None) ≡ known_step w u false false (known u s) (Withdraw x)
  withdraw_by true x h = own_shown x.member (withdraw_checks x) x.time (withdraw_call s x) (λ k. withdrawing_known k x) _ h (own_withdraws F s x)
  withdraw_by false x h =
      others_shown x.member _ _ _ h (later_follows (withdraw_checks x) x.time (λ v. withdrawing v x) (λ k. k) (λ e v. others_withdrawing F u v x h))

  -- A tick.
  ticks_later : (r : Option ℕ) (t : ℕ) (x : T)
      → let z = (timed_call r s t (λ v. ticking w v x)).0 in
      known u z ≡ later_known r (known u s) t (λ j. ticking_known w u (ends_in s.current z.current) j x)
  ticks_later None t x =
      let v = after_clock s t in
      let z = (ticking w v x).0 in
      ends_after_clock u (λ b j. ticking_known w u b j x) (ticking_over w u x) s t z (ticking_follows w u v x)
      ∙ ap (λ j. ticking_known w u (ends_in s.current z.current) j x) (clocked_follows u s t)
  ticks_later (Some e) t x = refl

  -- A look.
  look_follows : look_call s ≡ look_known (known u s)
  look_follows =
      ap (λ n. record { time = s.time; halted = s.halted; waiting = n; auction = option_map auction_view s.current }) (sym (length-map s.waiting (λ (e : EndedValues). e.number)))
      ∙ ap (λ a. record { time = s.time; halted = s.halted; waiting = (look_known (known u s)).waiting; auction = a }) (view_follows u s.current)

  call_follows : (c : Call T)
      → (known u (step w s c).0, seen_by u (moment w s c))
      ≡ known_step w u (opens_here (moment w s c)) (ends_in s.current (step w s c).0.current) (known u s) (without_hidden u c)
  call_follows (Open x) = ap (λ k. (k, None)) (open_follows x)
  call_follows (Respond x) = respond_by (eqb x.member u) x refl
  call_follows (Change x) = change_by (eqb x.member u) x refl
  call_follows (Withdraw x) = withdraw_by (eqb x.member u) x refl
  call_follows (Tick t x) = ap (λ k. (k, None)) (ticks_later (time_checks t) t x)
  call_follows (Halt t) =
      ap (λ k. (k, None)) (later_follows {F = F} (time_checks t) t _ (λ j. with_halted_known true (ended_known j)) (λ e z. ap (with_halted_known true) (ended_follows u (byte "H") z)))
  call_follows (Resume t) = ap (λ k. (k, None)) (later_follows {F = F} (time_checks t) t _ (with_halted_known false) (λ e z. refl))
  call_follows (Clock t) = ap (λ k. (k, None)) (later_follows {F = F} (time_checks t) t _ (λ j. j) (λ e z. refl))
  call_follows Look = ap (λ v. (known u s, Some (Looked v))) look_follows
  call_follows (Collect c n) = ap (λ k. (k, None)) (collecting_follows w u s c n)

  pub follows : (c : Call T)
      → (known u (step w s c).0, seen_by u (moment w s c))
      ≡ known_step w u (opens_here (moment w s c)) (ends_here (moment w s c)) (known u s) (without_hidden u c)
  follows c =
      call_follows c
      ∙ ap (λ e. known_step w u (opens_here (moment w s c)) e (known u s) (without_hidden u c)) (sym (ends_here_is (moment w s c)))
