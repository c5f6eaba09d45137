-- The claims that are held go on by what a member knows: an accepted opening adds the claim of the next number, and
-- whether a collecting is accepted follows from which auctions wait.
use Rattle.std.proofs.Common.{◌≡◌, ◌⊎◌, inl, inr, ℕ, ◌+◌, Bool, true, false, cond, not, eqb, List, [], ◌∷◌, ◌++◌, is_some, Some, None, Ok, Err, Option, Result, sym, refl, ap, ◌∙◌, max}
use Rattle.std.specs.Option.{option_map}
use Rattle.allocation.specs.declared.fill.FillRow.{FillRow}
use Rattle.room.specs.declared.answers.ClaimNumbers.{ClaimNumbers}
use Rattle.room.specs.declared.requests.OpeningRequest.{OpeningRequest}
use Rattle.room.specs.Checks.{collect_checks}
use Rattle.room.specs.Clock.{due}
use Rattle.room.specs.Collecting.{CollectionTold, waiting_now, collect_rows}
use Rattle.room.specs.Refusals.{refuse, unless, outcome}
use Rattle.room.specs.State.{EndedValues, RoomState, is_number, waiting_auction, at_time, after_end}
use Rattle.room.specs.World.{World}
use Rattle.room.proofs.Tests.{none_some}
use Rattle.session.specs.declared.call.Call.{Call}
use Rattle.session.specs.declared.call.Call.TheVariants.{Open, Collect}
use Rattle.session.specs.Claims.{claim_to}
use Rattle.session.specs.History.{opened_number, is_collected}
use Rattle.session.specs.Learning.{opens_here}
use Rattle.session.specs.Runs.{Answer, Opened, Collected, answer_of_result, after_clock_step, moment, step}
use Rattle.session.specs.Purse.{claim_in, without_claim, purse_after, is_made}
use Rattle.session.proofs.Ending.Shapes.{OpenedHere, opened_or_not, did}
use Rattle.session.proofs.Learning.Hidden.{without_hidden}
use Rattle.session.proofs.Learning.Known.{Known, known, numbers, numbered_known, waiting_known, collectable_known}
use Rattle.session.proofs.Learning.OthersCalls.{is_number_follows}
use Rattle.session.proofs.Learning.OwnRows.{numbered_follows}
use Rattle.std.specs.Str.{byte}

-- What is accepted.
abbrev is_ok : {X R : Type 0} → Result X R → Bool
is_ok (Ok x) = true
is_ok (Err e) = false

-- The claim that an opening adds, where it is said whether it is accepted.
abbrev claim_known : {P Q : Type 0} → Bool → Known P Q → List ClaimNumbers
claim_known opens k = cond opens (claim_to k.number (k.opened + 1) ∷ []) []

-- The purse after a call that is made.
abbrev pub purse_known : {P T Q : Type 0} → (F : Type 0) → Bool → Known P Q → Call T → List ClaimNumbers → List ClaimNumbers
purse_known F opens k (Open x) purse = purse ++ claim_known opens k
purse_known F opens k (Collect c n) purse = cond (is_ok (collectable_known k c n)) (without_claim c purse) purse
purse_known F opens k _ purse = purse

-- What is hidden does not tell whether a call is made.
pub hidden_made : {T : Type 0} (u : ℕ) (c : Call T) (purse : List ClaimNumbers) → is_made (without_hidden u c) purse ≡ is_made c purse
hidden_made u (Open x) purse = refl
hidden_made u _ purse = refl

-- An answer that opens nothing has no claim.
no_claim_in : {F : Type 0} (a : Answer F) → opened_number a ≡ None → claim_in a ≡ []
no_claim_in (Opened c) h = none_some c.auction (sym h)
no_claim_in _ h = refl

-- The clock step leaves the room's number and how many auctions were opened, and so the claim of the next opening.
module _ {P Q : Type 0} where
  abbrev next_claim : RoomState P Q → ClaimNumbers
  next_claim s = claim_to s.number (s.opened + 1)

  due_leaves : (b : Bool) (s : RoomState P Q) → next_claim (cond b (after_end (byte "T") s) s) ≡ next_claim s
  due_leaves true s = refl
  due_leaves false s = refl

  stepped_leaves : (r : Option ℕ) (t : Option ℕ) (s : RoomState P Q) → next_claim (after_clock_step r t s) ≡ next_claim s
  stepped_leaves (Some e) t s = refl
  stepped_leaves None None s = refl
  stepped_leaves None (Some t) s = due_leaves (due (max s.time t) s.current) (at_time (max s.time t) s)

module _ {P T F Q : Type 0} (w : World P T F Q) (u : ℕ) (s : RoomState P Q) where
  -- An opening.
  opening_adds_by : (x : OpeningRequest) → let m = moment w s (Open x) in
      OpenedHere w m ⊎ (opened_number m.answer ≡ None) → claim_in m.answer ≡ claim_known (opens_here m) (known u s)
  opening_adds_by x (inl d) =
      ap (λ (a : Answer F). claim_in a) d.answer_is
      ∙ ap (λ c. c ∷ []) (stepped_leaves _ (Some x.time) s)
      ∙ sym (ap (λ (a : Answer F). claim_known (is_some (opened_number a)) (known u s)) d.answer_is)
  opening_adds_by x (inr h) =
      no_claim_in (moment w s (Open x)).answer h ∙ sym (ap (λ o. claim_known (is_some o) (known u s)) h)

  opening_adds : (x : OpeningRequest) → claim_in (step w s (Open x)).1 ≡ claim_known (opens_here (moment w s (Open x))) (known u s)
  opening_adds x = opening_adds_by x (opened_or_not w (moment w s (Open x)) (did w s (Open x)))

  -- A collecting.
  collects_by : (a b : Option ℕ) (o : Option EndedValues) (effect : EndedValues → RoomState P Q) (tells : EndedValues → CollectionTold) (fs : List FillRow)
      → is_collected (answer_of_result {F = F} (λ k. Collected k fs) (outcome (unless a (unless b (waiting_now o))) s effect tells).1)
      ≡ is_ok (unless a (unless b (waiting_known (option_map (λ (e : EndedValues). e.number) o))))
  collects_by (Some f) b o effect tells fs = refl
  collects_by None (Some f) o effect tells fs = refl
  collects_by None None None effect tells fs = refl
  collects_by None None (Some e) effect tells fs = refl

  collecting_known : (c : ClaimNumbers) (n : ℕ) → is_collected (step w s (Collect c n)).1 ≡ is_ok (collectable_known (known u s) c n)
  collecting_known c n =
      let a : Option ℕ = collect_checks n in
      let b : Bool → Option ℕ = λ i. refuse (not (eqb c.room s.number)) 42 (refuse i 41 None) in
      collects_by a (b (is_number c.auction s.current)) (waiting_auction c.auction s.waiting) _ _ (collect_rows w s c n)
      ∙ ap (λ o. is_ok (unless a (unless (b (is_number c.auction s.current)) (waiting_known o)))) (sym (numbered_follows c.auction s.waiting))
      ∙ ap (λ i. is_ok (unless a (unless (b i) (waiting_known (numbered_known c.auction (numbers s.waiting)))))) (sym (is_number_follows u c.auction s.current))

  -- Every call.
  pub claims_follow : (c : Call T) (purse : List ClaimNumbers) → purse_after c (step w s c).1 purse ≡ purse_known F (opens_here (moment w s c)) (known u s) (without_hidden u c) purse
  claims_follow (Open x) purse = ap (λ l. purse ++ l) (opening_adds x)
  claims_follow (Collect c n) purse = ap (λ (b : Bool). cond b (without_claim c purse) purse) (collecting_known c n)
  claims_follow _ purse = refl
