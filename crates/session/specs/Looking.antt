-- What looks tell, from the calls and the answers before them, and what a room holds that no look tells.
use Rattle.std.specs.Prelude.{◌≡◌, ℕ, List, [], ◌∷◌, is_some}
use Rattle.room.specs.World.{World}
use Rattle.session.specs.declared.call.Call.{Call}
use Rattle.session.specs.declared.call.Call.TheVariants.{Look}
use Rattle.session.specs.History.{time_then, market_at, source_at, going_on, not_due, story_of, view_then}
use Rattle.session.specs.Moments.{is_open, history_of, Throughout}
use Rattle.session.specs.Runs.{Looked, Moment, step, run}

module _ {P T F Q : Type 0} (w : World P T F Q) (p : P) (q : Q) where
  -- A look tells the latest time of a timed call that passed its input checks (0 before the first); whether the room is
  -- halted, as the last accepted halt or resume says; as many waiting auctions as have ended and were not collected; and of
  -- the last auction opened, if it has not ended, number, side, size and initiating price, those of its opening.
  pub record LooksTellTheHistory (past : List (Moment P T F Q)) (m : Moment P T F Q) : Type 0 where
    -- A look among the calls is answered so,
    pub look : m.call ≡ Look → m.answer ≡ Looked (view_then w p q (history_of past))
    -- and a look made after the call would be.
    pub look_next : (step w m.after Look).1 ≡ Looked (view_then w p q (history_of (m ∷ past)))

  -- What no look tells of a room is that of the history too.
  pub record RoomHoldsTheHistory (past : List (Moment P T F Q)) (m : Moment P T F Q) : Type 0 where
    -- Its time is the history's behind the clock step, before the call's own business, as well as after the call.
    pub time_stepped : m.stepped.time ≡ time_then (history_of (m ∷ past))
    pub time_after : m.after.time ≡ time_then (history_of (m ∷ past))
    -- An auction is open behind the clock step exactly if its story went on and the time does not reach its deadline, and after
    -- the call exactly if its story goes on.
    pub open_stepped : (n : ℕ) → is_open n m.stepped ≡ is_some (not_due (time_then (history_of (m ∷ past))) (going_on (story_of w p q n (history_of past))))
    pub open_after : (n : ℕ) → is_open n m.after ≡ is_some (going_on (story_of w p q n (history_of (m ∷ past))))
    -- Its market and its source are where the accepted ticks and the accepted openings have led them.
    pub market_after : m.after.position ≡ market_at w p q (history_of (m ∷ past))
    pub source_after : m.after.source ≡ source_at w p q (history_of (m ∷ past))

-- Of every run.
abbrev pub LooksTellTheHistoryInRuns : {P T F Q : Type 0} → World P T F Q → Type 0
LooksTellTheHistoryInRuns {P} {T} {F} {Q} w =
    (number : ℕ) (p : P) (q : Q) (cs : List (Call T)) → Throughout (LooksTellTheHistory w p q) [] (run w number p q cs)

abbrev pub RoomsHoldTheHistory : {P T F Q : Type 0} → World P T F Q → Type 0
RoomsHoldTheHistory {P} {T} {F} {Q} w =
    (number : ℕ) (p : P) (q : Q) (cs : List (Call T)) → Throughout (RoomHoldsTheHistory w p q) [] (run w number p q cs)
