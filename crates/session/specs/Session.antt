-- A session in code as the model has it: what a call makes of it, and what a run of it comes to.
use Rattle.std.specs.Prelude.{◌≡◌, ℕ, ◌+◌, ◌≤◌, Bool, cond, List, ◌∷◌, length, Option, Some, map}
use Rattle.std.specs.List.{insert}
use Rattle.market.specs.Market.{Meaning}
use Rattle.interval.specs.Source.{SourceMeaning}
use Rattle.allocation.specs.declared.response.Key.{Key}
use Rattle.room.specs.declared.answers.ClaimNumbers.{ClaimNumbers}
use Rattle.room.specs.Rooms.{state_of, world_of}
use Rattle.room.specs.World.{World}
use Rattle.session.specs.declared.call.Call.{Call}
use Rattle.session.specs.declared.call.Call.TheVariants.{Collect}
use Rattle.session.specs.declared.Session.{Session}
use Rattle.session.specs.Lists.{lists_for_all}
use Rattle.session.specs.History.{is_collected}
use Rattle.session.specs.Runs.{Answer, step}
use Rattle.session.specs.SessionState.{SessionState, session_of, session_after, session_answer, session_answers, session_end}
use Rattle.session.specs.declared.answer.Answer.{Answer as CodeAnswer}
use Rattle.session.specs.Promises.{Start, Carried, WholePromise, at_first}
use Rattle.session.specs.Answer.{told}

module _ {M R S P T F Q : Type 0} where
  -- What a session in code is made over.
  abbrev pub session_world : Meaning P T F → SourceMeaning Q → (R → Key → Key → Bool) → Session M R S → World P T F Q
  session_world market source ahead s = world_of market source (ahead s.room.ranking)

module _ {M R S P Q : Type 0} where
  -- Its room and its purse; market and source are known by their positions.
  abbrev pub session_now : (M → P) → (S → Q) → Session M R S → SessionState P Q
  session_now position source s = session_of (state_of position source s.room) s.purse.numbers

-- A session has the memory that these calls can want: memory in the purse for each, and a list of rows for each collecting.
pub record HasMemoryFor {M R S T : Type 0} (s : Session M R S) (cs : List (Call T)) : Type 0 where
  pub claims : length cs ≤ s.purse.free
  pub lists : lists_for_all cs ≤ s.lists

-- A call was made of a session in code as the model makes it: what it left and what was answered are the model's, and it
-- used no memory but its own.
pub record MadeAsModelled {M R S P T F Q : Type 0} (w : World P T F Q) (position : M → P) (source : S → Q) (before after : Session M R S) (answered : Option (Answer F)) (c : Call T) : Type 0 where
  pub session : session_now position source after ≡ session_after w (session_now position source before) c
  pub answer : answered ≡ session_answer w (session_now position source before) c
  pub ranking : after.room.ranking ≡ before.room.ranking
  pub memory : (cs : List (Call T)) → HasMemoryFor before (c ∷ cs) → HasMemoryFor after cs

-- A claim that was taken out of a session in code at this index went to the room with a list of so many rows: the room and the
-- answer are the model's, the claim is spent or back at its index, and the session used no memory but its own.
pub record CollectedAsModelled {M R S P T F Q : Type 0} (w : World P T F Q) (position : M → P) (source : S → Q) (before after : Session M R S) (answered : Option (Answer F)) (claim : ClaimNumbers) (index rows : ℕ) : Type 0 where
  pub room : state_of position source after.room ≡ (step w (state_of position source before.room) (Collect claim rows)).0
  pub answer : answered ≡ Some (step w (state_of position source before.room) (Collect claim rows)).1
  pub claims : after.purse.numbers ≡ cond (is_collected (step w (state_of position source before.room) (Collect claim rows)).1) before.purse.numbers (insert before.purse.numbers index claim)
  pub ranking : after.room.ranking ≡ before.room.ranking
  pub free : before.purse.free ≤ after.purse.free + 1
  pub lists : before.lists ≤ after.lists + 1

module _ {M R S P T D F Q : Type 0} (fault : D → F) (position : M → P) (source : S → Q) where
  -- The calls that were carried out from this start on, and the session behind them.
  abbrev pub run_carried : Start P Q → List (Call T) → List (CodeAnswer D) → Session M R S → Carried P T F Q
  run_carried start calls answers after = record {
    start = start;
    calls = calls;
    answers = map (told fault) answers;
    room = state_of position source after.room;
    claims = after.purse.numbers;
  }

  pub record RunAsModelled (w : World P T F Q) (before after : Session M R S) (calls : List (Call T)) (answered : List (CodeAnswer D)) : Type 0 where
    -- The answers, and the room and the claims afterwards, are the model's.
    pub answers : map (told fault) answered ≡ session_answers w (session_now position source before) calls
    pub room : state_of position source after.room ≡ (session_end w (session_now position source before) calls).room
    pub claims : after.purse.numbers ≡ (session_end w (session_now position source before) calls).purse
    -- From a room's making on, with whatever claims, the whole promise holds.
    pub promise : (start : Start P Q) → session_now position source before ≡ at_first start → WholePromise w (run_carried start calls answered after)
    -- The room keeps its ranking, by which it would share out what comes next.
    pub ranking : after.room.ranking ≡ before.room.ranking
