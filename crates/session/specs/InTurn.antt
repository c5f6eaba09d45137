-- Calls of a room's methods, one after another from the room's making on, each as the contract of its method says, whoever makes
-- them.
use Rattle.std.specs.Prelude.{◌≡◌, ℕ, List, [], ◌∷◌, ◌++◌, length, map, take, drop, Ok, Err, Result}
use Rattle.market.specs.Market.{told_by}
use Rattle.allocation.specs.declared.fill.FillRow.{FillRow}
use Rattle.room.specs.declared.answers.ClaimNumbers.{ClaimNumbers}
use Rattle.room.specs.declared.answers.Collection.{Collection}
use Rattle.room.specs.declared.answers.View.{View}
use Rattle.room.specs.declared.claim.Claim.{Claim}
use Rattle.room.specs.declared.refusal.Refusal.{Refusal}
use Rattle.room.specs.declared.Room.{Room}
use Rattle.room.specs.Collecting.{CollectionTold, collect_call, collect_rows}
use Rattle.room.specs.Halts.{halt_call, resume_call, clock_call}
use Rattle.room.specs.Looks.{look_call}
use Rattle.room.specs.Openings.{open_call}
use Rattle.room.specs.Refusals.{RefusalTold, refusal_told}
use Rattle.room.specs.Responses.{respond_call, change_call, withdraw_call}
use Rattle.room.specs.Rooms.{claim_answer, claim_numbers, collected_answer, collection_answer, state_of}
use Rattle.room.specs.State.{RoomState, new_room}
use Rattle.room.specs.Ticks.{tick_call}
use Rattle.room.specs.World.{World}
use Rattle.session.specs.declared.call.Call.{Call}
use Rattle.session.specs.declared.call.Call.TheVariants.{Open, Respond, Change, Withdraw, Tick, Halt, Resume, Clock, Look, Collect}
use Rattle.session.specs.Laws.{LawsOfRun}
use Rattle.session.specs.Runs.{Answer, Opened, Stored, Accepted, Looked, Collected, Refused, Moment, answer_of_result, after_clock_step, given_time, input_refusal, run}

-- A call of a room's method: the room before it and after it, and what it answered.
pub record MethodCall (M R S T F : Type 0) : Type 0 where
  pub before : Room M R S
  pub call : Call T
  pub answer : Answer F
  pub after : Room M R S

module _ {M R S P T D F Q : Type 0} (world : R → World P T F Q) (position : M → P) (source : S → Q) (fault : D → F) where
  abbrev pub state_now : Room M R S → RoomState P Q
  state_now r = state_of position source r

  -- The clauses of `open` (its claim told by its numbers), `respond`, `change`, `withdraw`, `tick`, `halt`, `resume` and `clock`:
  -- the room afterwards and what is told of the result are those that the call means, and the ranking stays.
  pub record ByContract {Y X : Type 0} (tells : Result Y (Refusal D) → Result X (RefusalTold F)) (before after : Room M R S) (meant : RoomState P Q × Result X (RefusalTold F)) (kind : X → Answer F) (a : Answer F) : Type 0 where
    pub result : Result Y (Refusal D)
    pub state : state_now after ≡ meant.0
    pub answer : tells result ≡ meant.1
    pub ranking : after.ranking ≡ before.ranking
    pub told : a ≡ answer_of_result kind (tells result)

  -- The clause of `look`, which leaves the room.
  pub record LookByContract (before after : Room M R S) (a : Answer F) : Type 0 where
    pub result : View
    pub unchanged : after ≡ before
    pub answer : result ≡ look_call (state_now before)
    pub told : a ≡ Looked result

  -- What a collecting tells, of an accepted one with the rows that it wrote into the list.
  abbrev pub collecting_told : Result CollectionTold (RefusalTold F × Claim) → List FillRow → Answer F
  collecting_told (Ok k) rows = Collected k (take k.count rows)
  collecting_told (Err e) rows = Refused e.0

  -- The clauses of `collect`, which is handed a claim of these numbers and a list of so many rows.
  pub record CollectByContract (before after : Room M R S) (numbers : ClaimNumbers) (long : ℕ) (a : Answer F) : Type 0 where
    pub claim : Claim
    pub its_numbers : claim_numbers claim ≡ numbers
    pub rows_before : List FillRow
    pub as_long : length rows_before ≡ long
    pub rows_after : List FillRow
    pub result : Result Collection (Refusal D × Claim)
    pub state : state_now after ≡ (collect_call (world before.ranking) (state_now before) (claim_numbers claim) (length rows_before)).0
    pub answer : collection_answer fault result ≡ collected_answer claim (collect_call (world before.ranking) (state_now before) (claim_numbers claim) (length rows_before)).1
    pub rows : rows_after ≡ collect_rows (world before.ranking) (state_now before) (claim_numbers claim) (length rows_before)
        ++ drop (length (collect_rows (world before.ranking) (state_now before) (claim_numbers claim) (length rows_before))) rows_before
    pub ranking : after.ranking ≡ before.ranking
    pub told : a ≡ collecting_told (collection_answer fault result) rows_after

  -- A call was made as the contract of its method says.
  abbrev pub MadeByContract : Room M R S → Room M R S → Call T → Answer F → Type 0
  MadeByContract r u (Open x) a = ByContract (claim_answer fault) r u (open_call (world r.ranking) (state_now r) x) Opened a
  MadeByContract r u (Respond x) a = ByContract (told_by (refusal_told fault)) r u (respond_call (state_now r) x) Stored a
  MadeByContract r u (Change x) a = ByContract (told_by (refusal_told fault)) r u (change_call (state_now r) x) Stored a
  MadeByContract r u (Withdraw x) a = ByContract (told_by (refusal_told fault)) r u (withdraw_call (state_now r) x) Stored a
  MadeByContract r u (Tick t x) a = ByContract (told_by (refusal_told fault)) r u (tick_call (world r.ranking) (state_now r) t x) (λ _. Accepted) a
  MadeByContract r u (Halt t) a = ByContract (told_by (refusal_told fault)) r u (halt_call (state_now r) t) (λ _. Accepted) a
  MadeByContract r u (Resume t) a = ByContract (told_by (refusal_told fault)) r u (resume_call (state_now r) t) (λ _. Accepted) a
  MadeByContract r u (Clock t) a = ByContract (told_by (refusal_told fault)) r u (clock_call (state_now r) t) (λ _. Accepted) a
  MadeByContract r u Look a = LookByContract r u a
  MadeByContract r u (Collect c n) a = CollectByContract r u c n a

  -- Calls one after another, from a room on: each on the room that the one before it left.
  abbrev pub InTurn : Room M R S → List (MethodCall M R S T F) → Type 0
  InTurn r [] = Unit {0}
  InTurn r (c ∷ cs) = (c.before ≡ r) × MadeByContract c.before c.after c.call c.answer × InTurn c.after cs

  -- A call as a moment of a run.
  abbrev pub moment_of : MethodCall M R S T F → Moment P T F Q
  moment_of c = record {
    call = c.call;
    before = state_now c.before;
    stepped = after_clock_step (input_refusal c.call) (given_time c.call) (state_now c.before);
    after = state_now c.after;
    answer = c.answer;
  }

  -- These calls are a run from the room's making, so every law of a run holds of them.
  pub record AreARun (w : World P T F Q) (number : ℕ) (p : P) (q : Q) (cs : List (MethodCall M R S T F)) : Type 0 where
    pub moments : map moment_of cs ≡ run w number p q (map (λ (c : MethodCall M R S T F). c.call) cs)
    pub laws : LawsOfRun w number p q (map (λ (c : MethodCall M R S T F). c.call) cs)

  -- All calls that are made one after another on a room from its making.
  abbrev pub CallsInTurnAreARun : Type 0
  CallsInTurnAreARun =
      (number : ℕ) (p : P) (q : Q) (r : Room M R S) (cs : List (MethodCall M R S T F))
      → state_now r ≡ new_room number p q → InTurn r cs → AreARun (world r.ranking) number p q cs
