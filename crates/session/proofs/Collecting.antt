-- Collecting with a list of rows: when one list serves for another, and what the answer tells.
use Rattle.std.proofs.Common.{◌≡◌, ℕ, ◌+◌, ◌≤◌, Bool, true, false, cond, not, eqb, ltb, List, ◌++◌, length, take, drop, Some, None, Ok, Err, Option, Result, sym, refl, ap, ◌∙◌, arith, length-append, length-drop}
use Rattle.std.proofs.lemmas.List.{take_at}
use Rattle.std.proofs.lemmas.Bool.Decides.{nat_tests}
use Rattle.allocation.specs.declared.fill.FillRow.{FillRow}
use Rattle.room.specs.declared.answers.ClaimNumbers.{ClaimNumbers}
use Rattle.room.specs.declared.claim.Claim.{Claim}
use Rattle.room.specs.Collecting.{CollectionTold, collectable, collect_call, collect_rows, fill_rows, written_rows, waiting_now}
use Rattle.room.specs.Refusals.{RefusalTold, by_number, refuse, unless, outcome}
use Rattle.room.specs.Rooms.{collected_answer}
use Rattle.room.specs.State.{EndedValues, RoomState, is_number, waiting_auction, with_waiting, without_number}
use Rattle.room.specs.World.{World}
use Rattle.session.specs.declared.call.Call.TheVariants.{Collect}
use Rattle.session.specs.History.{is_collected}
use Rattle.session.specs.Runs.{Answer, Collected, Refused, answer_of_result, step}
use Rattle.session.specs.SessionState.{SessionState, session_of, session_after, session_answer}
use Rattle.session.specs.Purse.{holds, purse_left, without_claim}
use Rattle.session.proofs.Purses.{without_none}
use Rattle.session.proofs.SessionState.{session_is}
use Rattle.room.proofs.Tests.{ok_err}

module _ {P T F Q : Type 0} (w : World P T F Q) (s : RoomState P Q) (c : ClaimNumbers) where
  abbrev told_of : Result EndedValues ℕ → RoomState P Q × Result CollectionTold (RefusalTold F)
  told_of y = outcome y s (λ e. with_waiting (without_number c.auction s.waiting) s) (λ e. record { count = length (fill_rows w e); cause = e.cause })

  -- of two lists that are both long enough, or both too short, one serves for the other
  pub serves : (n m : ℕ) → ltb n 129 ≡ ltb m 129 → step w s (Collect c n) ≡ step w s (Collect c m)
  serves n m h =
      ap (λ (y : Result EndedValues ℕ). ((told_of y).0, answer_of_result (λ k. Collected k (written_rows w y)) (told_of y).1))
      (ap (λ (b : Bool). unless (refuse b 6 None) (unless (refuse (not (eqb c.room s.number)) 42 (refuse (is_number c.auction s.current) 41 None)) (waiting_now (waiting_auction c.auction s.waiting)))) h)

  accepted_by : (y : Result EndedValues ℕ) (claim : Claim) (k : CollectionTold) → Ok k ≡ collected_answer claim (told_of y).1
      → (answer_of_result (λ k. Collected k (written_rows w y)) (told_of y).1 ≡ Collected k (written_rows w y)) × (k.count ≡ length (written_rows w y))
  accepted_by (Ok e) claim k h =
      let same : k ≡ record { count = length (fill_rows w e); cause = e.cause } = cc in
      (ap (λ x. Collected x (fill_rows w e)) (sym same), ap (λ (x : CollectionTold). x.count) same)
  accepted_by (Err n) claim k h = ok_err k (by_number n, claim) h

  -- an accepted collecting
  pub accepted : (n : ℕ) (claim : Claim) (k : CollectionTold) → Ok k ≡ collected_answer claim (collect_call w s c n).1
      → ((step w s (Collect c n)).1 ≡ Collected k (collect_rows w s c n)) × (k.count ≡ length (collect_rows w s c n))
  accepted n claim k h = accepted_by (collectable s c n) claim k h

  refused_by : (y : Result EndedValues ℕ) (claim back : Claim) (e : RefusalTold F) → Err (e, back) ≡ collected_answer claim (told_of y).1
      → (answer_of_result (λ k. Collected k (written_rows w y)) (told_of y).1 ≡ Refused e) × (back ≡ claim)
  refused_by (Ok x) claim back e h = ok_err _ (e, back) (sym h)
  refused_by (Err x) claim back e h =
      let pair : (e, back) ≡ (by_number x, claim) = cc in
      (ap (λ (p : RefusalTold F × Claim). Refused p.0) (sym pair), ap (λ (p : RefusalTold F × Claim). p.1) pair)

  -- a refused one
  pub refused : (n : ℕ) (claim back : Claim) (e : RefusalTold F) → Err (e, back) ≡ collected_answer claim (collect_call w s c n).1 → ((step w s (Collect c n)).1 ≡ Refused e) × (back ≡ claim)
  refused n claim back e h = refused_by (collectable s c n) claim back e h

-- rows that were written into a list are its front
pub front_of : (fs rows new : List FillRow) → new ≡ fs ++ drop (length fs) rows → length new ≡ length rows → (take (length fs) new ≡ fs) × (length fs ≤ length rows)
front_of fs rows new e l =
    let long : length new ≡ length fs + length (drop (length fs) rows) = ap length e ∙ length-append fs (drop (length fs) rows) in
    let rest = length-drop (length fs) rows in
    (ap (take (length fs)) e ∙ take_at fs (drop (length fs) rows) (length fs) refl, omega arith)

-- an accepted collecting tells the front of the list that it wrote into
pub gathered : {P T F Q : Type 0} (w : World P T F Q) (s : RoomState P Q) (c : ClaimNumbers) (n : ℕ) (claim : Claim) (k : CollectionTold) (rows new : List FillRow)
    → Ok k ≡ collected_answer claim (collect_call w s c n).1 → new ≡ collect_rows w s c n ++ drop (length (collect_rows w s c n)) rows → length new ≡ length rows
    → (k.count ≤ length new) × ((step w s (Collect c n)).1 ≡ Collected k (take k.count new))
gathered w s c n claim k rows new h e l =
    let told = accepted w s c n claim k h in
    let front = front_of (collect_rows w s c n) rows new e l in
    let count = told.1 in
    let fits = front.1 in
    (omega arith, told.0 ∙ ap (λ x. Collected k x) (sym front.0 ∙ ap (λ m. take m new) (sym count)))

-- a list that is long enough, where as many rows or more are asked for
pub long_enough : (n : ℕ) → 129 ≤ n → ltb 129 129 ≡ ltb n 129
long_enough n h = grind (arith, nat_tests)

-- a collecting of a session
module _ {P T F Q : Type 0} (w : World P T F Q) (s : RoomState P Q) (purse : List ClaimNumbers) (c : ClaimNumbers) (n : ℕ) where
  pub made : (x : ClaimNumbers) (m : ℕ) (after : RoomState P Q) (answer : Answer F) (left : List ClaimNumbers) → holds c purse ≡ true → x ≡ c → ltb m 129 ≡ ltb n 129
      → after ≡ (step w s (Collect x m)).0 → answer ≡ (step w s (Collect x m)).1 → left ≡ purse_left answer x purse
      → (session_of after left ≡ session_after w (session_of s purse) (Collect c n)) × (Some answer ≡ session_answer w (session_of s purse) (Collect c n))
  made x m after answer left h e l room told others =
      let is : step w s (Collect x m) ≡ step w s (Collect c n) = ap (λ y. step w s (Collect y m)) e ∙ serves w s c m n l in
      let same = told ∙ ap (λ (y : RoomState P Q × Answer F). y.1) is in
      let then : SessionState P Q = record { room = (step w s (Collect c n)).0; purse = purse_left (step w s (Collect c n)).1 c purse } in
      let claims : left ≡ then.purse = others ∙ ap (λ (a : Answer F). purse_left a x purse) same ∙ ap (λ y. purse_left (step w s (Collect c n)).1 y purse) e in (
        session_is after left then (room ∙ ap (λ (y : RoomState P Q × Answer F). y.0) is) claims ∙ sym (ap (λ (b : Bool). cond b then (session_of s purse)) h),
        ap Some same ∙ sym (ap (λ (b : Bool). cond b (Some (step w s (Collect c n)).1) None) h),
      )

  -- with a claim that was taken out of the purse, and is put back where the collecting is refused
  pub made_with : (x : ClaimNumbers) (m : ℕ) (after : RoomState P Q) (answered : Option (Answer F)) (others back left : List ClaimNumbers) → holds c purse ≡ true → x ≡ c
      → after ≡ (step w s (Collect x m)).0 → answered ≡ Some (step w s (Collect x m)).1 → left ≡ cond (is_collected (step w s (Collect x m)).1) others back
      → others ≡ without_claim c purse → back ≡ purse → ltb m 129 ≡ ltb n 129
      → (session_of after left ≡ session_after w (session_of s purse) (Collect c n)) × (answered ≡ session_answer w (session_of s purse) (Collect c n))
  made_with x m after answered others back left h e room told claims without again l =
      let answer = (step w s (Collect x m)).1 in
      let kept : left ≡ purse_left answer x purse =
      claims ∙ ap (λ y. cond (is_collected answer) y back) (without ∙ ap (λ y. without_claim y purse) (sym e)) ∙ ap (λ y. cond (is_collected answer) (without_claim x purse) y) again in
      let is = made x m after answer left h e l room refl kept in
      (is.0, told ∙ is.1)

  pub not_made : (left : List ClaimNumbers) → holds c purse ≡ false → left ≡ without_claim c purse
      → (session_of s left ≡ session_after w (session_of s purse) (Collect c n)) × (None ≡ session_answer w (session_of s purse) (Collect c n))
  not_made left h others =
      let then : SessionState P Q = record { room = (step w s (Collect c n)).0; purse = purse_left (step w s (Collect c n)).1 c purse } in (
        ap (session_of s) (others ∙ without_none c purse h) ∙ sym (ap (λ (b : Bool). cond b then (session_of s purse)) h),
        sym (ap (λ (b : Bool). cond b (Some (step w s (Collect c n)).1) None) h),
      )
