-- Runs: any list of calls, one after another, on a room straight from its making.
use Rattle.std.specs.Prelude.{ℕ, List, [], ◌∷◌, Some, None, Ok, Err, Option, Result}
use Rattle.allocation.specs.declared.fill.FillRow.{FillRow}
use Rattle.room.specs.declared.answers.ClaimNumbers.{ClaimNumbers}
use Rattle.room.specs.declared.answers.StoredTerms.{StoredTerms}
use Rattle.room.specs.declared.answers.View.{View}
use Rattle.room.specs.Checks.{open_checks, respond_checks, change_checks, withdraw_checks, time_checks, collect_checks}
use Rattle.room.specs.Clock.{after_clock}
use Rattle.room.specs.Collecting.{CollectionTold, collect_call, collect_rows}
use Rattle.room.specs.Halts.{halt_call, resume_call, clock_call}
use Rattle.room.specs.Looks.{look_call}
use Rattle.room.specs.Openings.{open_call}
use Rattle.room.specs.Refusals.{RefusalTold}
use Rattle.room.specs.Responses.{respond_call, change_call, withdraw_call}
use Rattle.room.specs.State.{RoomState, new_room}
use Rattle.room.specs.Ticks.{tick_call}
use Rattle.room.specs.World.{World}
use Rattle.session.specs.declared.call.Call.{Call}
use Rattle.session.specs.declared.call.Call.TheVariants.{Open, Respond, Change, Withdraw, Tick, Halt, Resume, Clock, Look, Collect}

-- What a call is answered: an opening a claim; a response, a change and a withdrawal the stored price and size; a tick, a
-- halt, a resume and a clock call only acceptance; a look what everybody may know; a collecting the row count, the letter of
-- the cause and the rows that it wrote; and any but a look a refusal, by its number and the market's fault that it holds.
pub data Answer (F : Type 0) : Type 0 where
  Opened : ClaimNumbers → Answer F
  Stored : StoredTerms → Answer F
  Accepted : Answer F
  Looked : View → Answer F
  Collected : CollectionTold → List FillRow → Answer F
  Refused : RefusalTold F → Answer F

-- A refusal is answered as such, and what is accepted in its own way.
abbrev pub answer_of_result : {X F : Type 0} → (X → Answer F) → Result X (RefusalTold F) → Answer F
answer_of_result f (Ok x) = f x
answer_of_result f (Err e) = Refused e

abbrev pub state_and_answer : {S X F : Type 0} → (X → Answer F) → S × Result X (RefusalTold F) → S × Answer F
state_and_answer f y = (y.0, answer_of_result f y.1)

-- The time that a call carries: every call but a look and a collecting has one.
abbrev pub given_time : {T : Type 0} → Call T → Option ℕ
given_time (Open x) = Some x.time
given_time (Respond x) = Some x.time
given_time (Change x) = Some x.time
given_time (Withdraw x) = Some x.time
given_time (Tick t x) = Some t
given_time (Halt t) = Some t
given_time (Resume t) = Some t
given_time (Clock t) = Some t
given_time _ = None

-- The number of the refusal that the input checks of a call come to.
abbrev pub input_refusal : {T : Type 0} → Call T → Option ℕ
input_refusal (Open x) = open_checks x
input_refusal (Respond x) = respond_checks x
input_refusal (Change x) = change_checks x
input_refusal (Withdraw x) = withdraw_checks x
input_refusal (Tick t x) = time_checks t
input_refusal (Halt t) = time_checks t
input_refusal (Resume t) = time_checks t
input_refusal (Clock t) = time_checks t
input_refusal Look = None
input_refusal (Collect c n) = collect_checks n

-- The room after the clock step of a call: a timed call that passes its input checks has one.
abbrev pub after_clock_step : {P Q : Type 0} → Option ℕ → Option ℕ → RoomState P Q → RoomState P Q
after_clock_step (Some e) t s = s
after_clock_step None None s = s
after_clock_step None (Some t) s = after_clock s t

-- A call in a run: the room before it, after its clock step and after it, and the answer.
pub record Moment (P T F Q : Type 0) : Type 0 where
  pub call : Call T
  pub before : RoomState P Q
  pub stepped : RoomState P Q
  pub after : RoomState P Q
  pub answer : Answer F

module _ {P T F Q : Type 0} (w : World P T F Q) where
  -- One call: the room after it, and the answer.
  abbrev pub step : RoomState P Q → Call T → RoomState P Q × Answer F
  step s (Open x) = state_and_answer Opened (open_call w s x)
  step s (Respond x) = state_and_answer Stored (respond_call s x)
  step s (Change x) = state_and_answer Stored (change_call s x)
  step s (Withdraw x) = state_and_answer Stored (withdraw_call s x)
  step s (Tick t x) = state_and_answer (λ _. Accepted) (tick_call w s t x)
  step s (Halt t) = state_and_answer (λ _. Accepted) (halt_call s t)
  step s (Resume t) = state_and_answer (λ _. Accepted) (resume_call s t)
  step s (Clock t) = state_and_answer (λ _. Accepted) (clock_call s t)
  step s Look = (s, Looked (look_call s))
  step s (Collect c n) = state_and_answer (λ k. Collected k (collect_rows w s c n)) (collect_call w s c n)

  abbrev pub moment : RoomState P Q → Call T → Moment P T F Q
  moment s c = record {
    call = c;
    before = s;
    stepped = after_clock_step (input_refusal c) (given_time c) s;
    after = (step s c).0;
    answer = (step s c).1;
  }

  -- Calls made one after another, from a room on.
  abbrev pub run_from : RoomState P Q → List (Call T) → List (Moment P T F Q)
  run_from s [] = []
  run_from s (c ∷ cs) = moment s c ∷ run_from (step s c).0 cs

  -- A run: a room is made of its number and the positions of its market and its source, and the calls are made.
  abbrev pub run : ℕ → P → Q → List (Call T) → List (Moment P T F Q)
  run n p q cs = run_from (new_room n p q) cs
