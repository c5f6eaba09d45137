-- Calls that are made one after another on a room from its making, each as the contract of its method says, are a run.
use Rattle.std.proofs.Common.{◌≡◌, ℕ, List, [], ◌∷◌, ◌++◌, length, map, take, drop, Ok, Err, Result, sym, refl, ap, ◌∙◌}
use Rattle.std.proofs.lemmas.List.{take_at}
use Rattle.allocation.specs.declared.fill.FillRow.{FillRow}
use Rattle.room.specs.declared.answers.ClaimNumbers.{ClaimNumbers}
use Rattle.room.specs.declared.claim.Claim.{Claim}
use Rattle.room.specs.declared.refusal.Refusal.{Refusal}
use Rattle.room.specs.declared.Room.{Room}
use Rattle.room.specs.Collecting.{CollectionTold, collect_call, collect_rows}
use Rattle.room.specs.Rooms.{claim_numbers, collected_answer, collection_answer}
use Rattle.room.specs.State.{RoomState, new_room}
use Rattle.room.specs.World.{World, Terms}
use Rattle.session.specs.declared.call.Call.{Call}
use Rattle.session.specs.declared.call.Call.TheVariants.{Open, Respond, Change, Withdraw, Tick, Halt, Resume, Clock, Look, Collect}
use Rattle.session.specs.InTurn.{MethodCall, state_now, ByContract, collecting_told, MadeByContract, InTurn, moment_of, CallsInTurnAreARun}
use Rattle.session.specs.Runs.{Answer, Looked, Collected, Moment, answer_of_result, state_and_answer, after_clock_step, given_time, input_refusal, moment, run_from, step}
use Rattle.session.proofs.Collecting.{accepted, refused}
use Rattle.session.proofs.RunLaws.{laws_of_run}
use Rattle.room.specs.Refusals.{RefusalTold}

module _ {M R S P T D F Q : Type 0} (world : R → World P T F Q) (position : M → P) (source : S → Q) (fault : D → F) where
  -- a call that was made as its method's contract says is a step, and keeps the ranking
  record IsStep (before after : Room M R S) (c : Call T) (a : Answer F) : Type 0 where
    pub is : (state_now world position source fault after, a) ≡ step (world before.ranking) (state_now world position source fault before) c
    pub ranking : after.ranking ≡ before.ranking

  by_contract : {Y X : Type 0} (tells : Result Y (Refusal D) → Result X (RefusalTold F)) (before after : Room M R S) (meant : RoomState P Q × Result X (RefusalTold F)) (kind : X → Answer F) (a : Answer F)
      → ByContract world position source fault tells before after meant kind a → (state_now world position source fault after, a) ≡ state_and_answer kind meant
  by_contract tells before after meant kind a h = ap (λ s. (s, a)) h.state ∙ ap (λ b. (meant.0, b)) (h.told ∙ ap (answer_of_result kind) h.answer)

  -- what a collecting tells
  gathers : (w : World P T F Q) (s : RoomState P Q) (claim : Claim) (n : ℕ) (c : ClaimNumbers) (result : Result CollectionTold (RefusalTold F × Claim)) (rows after : List FillRow)
      → result ≡ collected_answer claim (collect_call w s c n).1 → after ≡ collect_rows w s c n ++ drop (length (collect_rows w s c n)) rows
      → collecting_told world position source fault result after ≡ (step w s (Collect c n)).1
  gathers w s claim n c (Ok k) rows after h e =
      let told = accepted w s c n claim k h in
      let fs = collect_rows w s c n in
      ap (λ m. Collected k (take m after)) told.1 ∙ ap (Collected k) (ap (take (length fs)) e ∙ take_at fs (drop (length fs) rows) (length fs) refl) ∙ sym told.0
  gathers w s claim n c (Err x) rows after h e = sym (refused w s c n claim x.1 x.0 h).0

  is_step : (r u : Room M R S) (c : Call T) (a : Answer F) → MadeByContract world position source fault r u c a → IsStep r u c a
  is_step r u (Open x) a h = record { is = by_contract _ r u _ _ a h; ranking = h.ranking }
  is_step r u (Respond x) a h = record { is = by_contract _ r u _ _ a h; ranking = h.ranking }
  is_step r u (Change x) a h = record { is = by_contract _ r u _ _ a h; ranking = h.ranking }
  is_step r u (Withdraw x) a h = record { is = by_contract _ r u _ _ a h; ranking = h.ranking }
  is_step r u (Tick t x) a h = record { is = by_contract _ r u _ _ a h; ranking = h.ranking }
  is_step r u (Halt t) a h = record { is = by_contract _ r u _ _ a h; ranking = h.ranking }
  is_step r u (Resume t) a h = record { is = by_contract _ r u _ _ a h; ranking = h.ranking }
  is_step r u (Clock t) a h = record { is = by_contract _ r u _ _ a h; ranking = h.ranking }
  is_step r u Look a h =
      record {
        is = ap (λ s. (s, a)) (ap (state_now world position source fault) h.unchanged) ∙ ap (λ b. (state_now world position source fault r, b)) (h.told ∙ ap Looked h.answer);
        ranking = ap (λ (x : Room M R S). x.ranking) h.unchanged;
      }
  is_step r u (Collect c n) a h =
      let w = world r.ranking in
      let s = state_now world position source fault r in
      let told = h.told ∙ gathers w s h.claim (length h.rows_before) (claim_numbers h.claim) (collection_answer fault h.result) h.rows_before h.rows_after h.answer h.rows in
      let as_made : (state_now world position source fault u, a) ≡ step w s (Collect (claim_numbers h.claim) (length h.rows_before)) = ap (λ s. (s, a)) h.state ∙ ap (λ b. ((collect_call w s (claim_numbers h.claim) (length h.rows_before)).0, b)) told in
      record {
        is = as_made ∙ ap (λ x. step w s (Collect x (length h.rows_before))) h.its_numbers ∙ ap (λ m. step w s (Collect c m)) h.as_long;
        ranking = h.ranking;
      }

  -- one call's moment
  is_moment : (w : World P T F Q) (s : RoomState P Q) (c : MethodCall M R S T F) → world c.before.ranking ≡ w → state_now world position source fault c.before ≡ s → IsStep c.before c.after c.call c.answer
      → moment_of world position source fault c ≡ moment w s c.call
  is_moment w s c k e h =
      let at : RoomState P Q → RoomState P Q × Answer F → Moment P T F Q = λ before y. record {
        call = c.call;
        before = before;
        stepped = after_clock_step (input_refusal c.call) (given_time c.call) before;
        after = y.0;
        answer = y.1;
      } in
      ap (at (state_now world position source fault c.before)) h.is ∙ ap (λ v. at (state_now world position source fault c.before) (step v (state_now world position source fault c.before) c.call)) k
      ∙ ap (λ b. at b (step w b c.call)) e

  abbrev calls_of : List (MethodCall M R S T F) → List (Call T)
  calls_of cs = map (λ (c : MethodCall M R S T F). c.call) cs

  are_moments : (w : World P T F Q) (s : RoomState P Q) (r : Room M R S) (cs : List (MethodCall M R S T F)) → world r.ranking ≡ w → state_now world position source fault r ≡ s
      → InTurn world position source fault r cs → map (moment_of world position source fault) cs ≡ run_from w s (calls_of cs)
  are_moments w s r [] k e h = refl
  are_moments w s r (c ∷ cs) k e h =
      let made = is_step c.before c.after c.call c.answer h.1 in
      let world_is : world c.before.ranking ≡ w = ap (λ (x : Room M R S). world x.ranking) h.0 ∙ k in
      let state_is : state_now world position source fault c.before ≡ s = ap (state_now world position source fault) h.0 ∙ e in
      let then : state_now world position source fault c.after ≡ (step w s c.call).0 =
      ap (λ (y : RoomState P Q × Answer F). y.0) made.is ∙ ap (λ v. (step v (state_now world position source fault c.before) c.call).0) world_is ∙ ap (λ b. (step w b c.call).0) state_is in
      ap (λ m. m ∷ map (moment_of world position source fault) cs) (is_moment w s c world_is state_is made)
      ∙ ap (λ ms. moment w s c.call ∷ ms) (are_moments w (step w s c.call).0 c.after cs (ap world made.ranking ∙ world_is) then h.2)

  pub calls_in_turn : ((ranking : R) → Terms (world ranking)) → CallsInTurnAreARun world position source fault
  calls_in_turn terms number p q r cs made h =
      record {
        moments = are_moments (world r.ranking) (new_room number p q) r cs refl made h;
        laws = laws_of_run (world r.ranking) (terms r.ranking) number p q (calls_of cs);
      }
